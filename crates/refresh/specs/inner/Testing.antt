-- The tests of a refresh that precede the search for its rows. Assumes nothing.
use Rattle.std.specs.Prelude.{ℕ, ◌≡◌, Bool, not, List, [], ◌∷◌, ltb, length}
use Rattle.lists.specs.Lists.{all}
use Rattle.refusals.specs.Refusals.{check, first_refusal}
use Rattle.plain_table.specs.Plain.{below}
use Rattle.plain_table.specs.Refreshing.{index_short}
use Rattle.table.specs.declared.Header.{Header}
use Rattle.table.specs.Numbers.{opening_of, largest_view}
use Rattle.table.specs.Refusing.{pending_outside, rows_short}
use Rattle.refresh_spec.specs.inner.Finding.{usable}

-- the checks without the last one, 7, over the lengths of the lent stores
unfoldable pub early_refusal : Header → ℕ → ℕ → ℕ → List ℕ → ℕ → ℕ
early_refusal h rows pending index columns stamp =
    first_refusal
    (check (pending_outside h pending) 1
    ∷ check (rows_short h rows) 2
    ∷ check (ltb 8 (length columns)) 12
    ∷ check (not (all (λ column. ltb column h.columns) columns)) 6
    ∷ check (index_short (opening_of h) columns index) 2
    ∷ check (below stamp (largest_view h.largest)) 9
    ∷ [])

-- these checks pass, and whether the refresh continues with the index store is known
pub record Accepted (h : Header) (rows pending index columns : List ℕ) (stamp : ℕ) (goes_on : Bool) : Type 0 where
  pub checked : early_refusal h (length rows) (length pending) (length index) columns stamp ≡ 0
  pub continues : goes_on ≡ usable h columns index

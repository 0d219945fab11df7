-- The tests of a query, one after another: those that all queries share, and each query's own. Assumes nothing.
use Rattle.std.specs.Prelude.{ℕ, ◌-◌, ◌≤◌, min, ◌≡◌, Bool, true, false, not, List, [], ◌∷◌}
use Rattle.lists.specs.Lists.{all}
use Rattle.refusals.specs.Refusals.{check, first_refusal}
use Rattle.offsets.specs.Subsets.{Subset, well_formed, size}
use Rattle.constraints.specs.declared.Constraint.{Constraint}
use Rattle.constraints.specs.Constraints.{known}
use Rattle.table.specs.declared.Header.{Header}
use Rattle.table.specs.Refusing.{outside, rows_short}
use Rattle.query_spec.specs.Queries.{past_rows, refine_refusal, match_refusal, page_refusal}

-- none of the tests 1, 2, 4 and 5 applies; `rows` is the length of the row store
pub record Queryable (h : Header) (rows : ℕ) (subset : Subset) : Type 0 where
  pub inside : outside h ≡ false
  pub long : rows_short h rows ≡ false
  pub formed : well_formed subset ≡ true
  pub below : past_rows h subset ≡ false

-- the refusal of these tests, which all queries share
unfoldable pub subset_refusal : Header → ℕ → Subset → ℕ
subset_refusal h rows subset =
    first_refusal
    (check (outside h) 1
    ∷ check (rows_short h rows) 2
    ∷ check (not (well_formed subset)) 4
    ∷ check (past_rows h subset) 5
    ∷ [])

-- the refusal of a refine; `knows` is whether the conditions are known
pub record RefineRefused (h : Header) (rows : ℕ) (subset : Subset) (knows : Bool) (output number : ℕ) : Type 0 where
  pub number_is : (conditions : List Constraint) → knows ≡ all (known h.columns) conditions → number ≡ refine_refusal h rows subset conditions output
  pub queryable : number ≡ 0 → Queryable h rows subset
  pub room : number ≡ 0 → size subset ≤ output

-- the refusal of any match
pub record MatchRefused (h : Header) (rows : ℕ) (subset : Subset) (knows : Bool) (number : ℕ) : Type 0 where
  pub number_is : (conditions : List Constraint) → knows ≡ all (known h.columns) conditions → number ≡ match_refusal h rows subset conditions
  pub queryable : number ≡ 0 → Queryable h rows subset

-- the refusal of a page
pub record PageRefused (h : Header) (rows : ℕ) (subset : Subset) (start n : ℕ) (knows : Bool) (output number : ℕ) : Type 0 where
  pub number_is : (conditions : List Constraint) → knows ≡ all (known h.columns) conditions → number ≡ page_refusal h rows subset start n conditions output
  pub queryable : number ≡ 0 → Queryable h rows subset
  pub within : number ≡ 0 → start ≤ size subset
  pub room : number ≡ 0 → min n (size subset - start) ≤ output

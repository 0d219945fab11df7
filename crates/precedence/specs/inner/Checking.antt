-- Contracts of the parts of the check. On any stores they end and return; the value returned is specified if the key store is sound
-- and live keys differ. Assumes nothing.
use Rattle.std.specs.Prelude.{ℕ, ◌≤◌, ◌<◌, ◌≡◌, Bool, cond, ◌&&◌, List, get_or, leb}
use Rattle.std.proofs.Math.Option.{Option, none, some}
use Rattle.lists.specs.Lists.{any, row_at}
use Rattle.constraints.specs.Constraints.{is_live}
use Rattle.key_index.specs.Slots.{KeysSound}
use Rattle.key_index.specs.inner.Index.{Fits}
use Rattle.plain_table.specs.Staged.{has_key}
use Rattle.plain_table.specs.Plain.{live_rows}
use Rattle.table.specs.declared.Header.{Header}
use Rattle.table.specs.Numbers.{opening_of}
use Rattle.table.specs.Sound.{index_shape_of, KeysDiffer}
use Rattle.table.specs.Outcomes.{of_rows}
use Rattle.precedence.specs.Precedence.{Pair, pairs_of, precedes, meets_pair, first_failing}

-- header and stores have passed the tests
pub record Tested (h : Header) (rows keys : List ℕ) : Type 0 where
  pub fits : Fits (index_shape_of h) rows keys
  pub sort_there : h.sort < h.columns

-- a live row has this key, and its sort cell is at most `latest`
unfoldable pub filed_by : Header → List ℕ → List ℕ → ℕ → Bool
filed_by h rows key latest =
    any (λ row. has_key h.keys key row.cells && leb (get_or row.cells h.sort 0) latest) (live_rows (of_rows h rows))

-- a live row exists that this row may need: with this value in the column, the same other key cells and a sort cell no larger
unfoldable pub row_filed : Header → List ℕ → ℕ → ℕ → ℕ → Bool
row_filed h rows column row value =
    any (λ other. precedes (opening_of h) column value (row_at h.columns row rows) other.cells) (live_rows (of_rows h rows))

-- a statement that holds if the key store is sound and live keys differ
abbrev pub OnTable : Header → List ℕ → List ℕ → Type 0 → Type 0
OnTable h rows keys So = KeysSound (index_shape_of h) rows keys → KeysDiffer h rows → So

-- a row meets a pair of these values
unfoldable pub row_meets : Header → List ℕ → ℕ → ℕ → Pair → Bool
row_meets h rows column row pair = meets_pair (of_rows h rows) column (row_at h.columns row rows) pair

-- the place of the first pair that a row fails; a dead row fails none
unfoldable pub row_failing : Header → List ℕ → ℕ → List ℕ → ℕ → Option ℕ
row_failing h rows column pairs row =
    cond (is_live (row_at h.columns row rows)) (first_failing (meets_pair (of_rows h rows) column (row_at h.columns row rows)) 0 (pairs_of pairs)) none

-- a place below a count, or else none
pub record PlaceIs (count : ℕ) (place : Option ℕ) (r : ℕ) : Type 0 where
  pub fails : r < count → place ≡ some r
  pub meets : count ≤ r → place ≡ none

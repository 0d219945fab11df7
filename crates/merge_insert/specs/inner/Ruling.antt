-- The row that the rule makes of an old and a new row in a merge. Holds for any stores, sound or not. Assumes nothing.
use Rattle.std.specs.Prelude.{ℕ, ◌+◌, ◌*◌, ◌≤◌, ◌≡◌, Bool, true, false, cond, List, leb, length, take, drop, None, Some, Ok, Err}
use Rattle.lists.specs.Lists.{splice, row_at}
use Rattle.merge_rules.specs.Rules.{changes_from, made_from, survivor}
use Rattle.table.specs.declared.Header.{Header}
use Rattle.merge_insert.specs.inner.Appending.{Insertion, stop_number, Stayed, Replaced}

-- a cell outside keys and sort column changes
abbrev pub Changes : Header → List ℕ → List ℕ → Bool
Changes h old new = changes_from h.rule h.keys h.sort 0 old new

-- the row to append: "For rules 0 and 1 the surviving row"
unfoldable pub row_made : Header → List ℕ → List ℕ → List ℕ
row_made h old new =
    cond (leb h.rule 1) (survivor h.rule h.keys h.sort old new) (made_from h.rule h.keys h.sort 0 old new)

-- both rows are within their stores, and there is room for the row made
pub record Makeable (h : Header) (rows pending out : List ℕ) (old from : ℕ) : Type 0 where
  pub few_columns : h.columns ≤ 8
  pub few_keys : h.keys ≤ h.columns
  pub old_small : old * h.columns ≤ 524288
  pub old_in : old * h.columns + h.columns ≤ length rows
  pub new_in : from + h.columns ≤ length pending
  pub out_long : length out ≡ 8

-- the answer, which is whether a row is made, and the row
pub record MadeIs (h : Header) (rows pending out : List ℕ) (old from : ℕ) (r : Bool) (out' : List ℕ) : Type 0 where
  pub answer : r ≡ Changes h (row_at h.columns old rows) (take h.columns (drop from pending))
  pub row : r ≡ true → out' ≡ splice out 0 (row_made h (row_at h.columns old rows) (take h.columns (drop from pending)))

-- no row is made, and the stores are unchanged
pub record UnchangedOld (h : Header) (rows keys sorts cells : List ℕ) (old : ℕ) (rows' keys' sorts' : List ℕ) : Type 0 where
  pub unchanged : Changes h (row_at h.columns old rows) cells ≡ false
  pub same_rows : rows' ≡ rows
  pub same_keys : keys' ≡ keys
  pub same_sorts : sorts' ≡ sorts

-- "A known key goes through the rule; a row so made is appended and the old row dies"
abbrev pub KnownIs : Header → List ℕ → List ℕ → List ℕ → List ℕ → ℕ → ℕ → ℕ → List ℕ → List ℕ → List ℕ → Insertion → Type 0
KnownIs h rows keys sorts cells hash old slot rows' keys' sorts' (Ok None) = UnchangedOld h rows keys sorts cells old rows' keys' sorts'
KnownIs h rows keys sorts cells hash old slot rows' keys' sorts' (Ok (Some h')) =
    (Changes h (row_at h.columns old rows) cells ≡ true) × Replaced h rows keys sorts (row_made h (row_at h.columns old rows) cells) hash old slot h' rows' keys' sorts'
KnownIs h rows keys sorts cells hash old slot rows' keys' sorts' (Err stop) =
    (Changes h (row_at h.columns old rows) cells ≡ true) × Stayed h rows keys sorts (row_made h (row_at h.columns old rows) cells) (stop_number stop) rows' keys' sorts'

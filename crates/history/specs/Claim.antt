-- The order's term 3, as one claim about its two lists. Assumes nothing.
use Rattle.std.specs.Prelude.{ℕ, ◌≡◌, Bool, true, ◌&&◌, List, ltb}
use Rattle.lists.specs.Lists.{filter, all, any, rising, elem, row_at}
use Rattle.offsets.specs.Subsets.{Subset, members}
use Rattle.constraints.specs.Constraints.{is_live, met}
use Rattle.plain_table.specs.Staged.{Opening}
use Rattle.plain_table.specs.Plain.{Plain, Numbered, live_from, live_rows, opened}
use Rattle.plain_table.specs.Calls.{LentCall, after_all}
use Rattle.table.specs.Stores.{rows_in}
use Rattle.table.specs.Outcomes.{Stores}
use Rattle.history.specs.Histories.{History}
use Rattle.history.specs.Runs.{Query, refine_one, refine_list, intersect_with, intersect_range, refines, Run}

-- the live rows of a table, read from its header and row store: numbers and cells
unfoldable pub live_in : Stores → List Numbered
live_in s = live_from 0 (rows_in s.header s.rows)

-- a row satisfies an accepted query: it is in its subset, or meets its conditions, "those of ranges too"
unfoldable pub satisfies : ℕ → List ℕ → Query → Bool
satisfies id row (refine_one c) = met row c
satisfies id row (refine_list cs) = all (met row) cs
satisfies id row (intersect_with subset) = elem id (members subset)
satisfies id row (intersect_range c) = met row c

-- a live row that is "in every accepted subset" and meets "every accepted condition"
unfoldable pub wanted : Stores → List Query → ℕ → Bool
wanted s accepted id =
    let row = row_at s.header.columns id s.rows in
    ltb id s.header.rows && is_live row && all (satisfies id row) accepted

-- term 3 for a table in stores, with the plain table after the same calls
pub record Claimed (p : Plain) (s : Stores) : Type 0 where
  -- "the live rows, numbers and cells, are those of document 01's plain table after the same calls"
  pub live_rows_shown : live_in s ≡ live_rows p
  -- "If some accepted step refines, the ids left .. are exactly the live rows of the starting subset that ..", "rising,
  -- each once"
  pub ids_left : (start : Subset) (queries : List Query) (end : Subset) (accepted : List Query)
      → Run s start queries end accepted → any refines accepted ≡ true
      → (members end ≡ filter (wanted s accepted) (members start)) × (rising (members end) ≡ true)

abbrev pub Claim : Type 0
Claim =
    (o : Opening) (generation : ℕ) (calls : List LentCall) (s : Stores) → History o generation calls s → Claimed (after_all (opened o generation) calls) s

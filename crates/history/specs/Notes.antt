-- A reader with an old note (document 02, change 14): "Field readers keep a copy of the rows and the version at which they took it.
-- Given that version, the table answers the rows since then. Within one history of demand 3, an accepted note guarantees that each
-- row below the noted count either has the cells it had or is dead. The live rows are then the copied rows still live together with
-- the live rows of the answer. The guarantee also covers stopped merges and clears of an empty table". It does not cover a table
-- that was opened anew: that is another history, even at the same generation. Assumes nothing.
use Rattle.sort_entries.specs.declared.Range.{Range}
use Rattle.refusals.specs.declared.Refusal.{Refusal}
use Rattle.std.specs.Prelude.{ℕ, ◌<◌, ◌≡◌, false, ◌⊎◌, List, ◌++◌, Result, Option as Optional}
use Rattle.std.proofs.Math.Option.{some}
use Rattle.lists.specs.Lists.{filter, elem, row_at}
use Rattle.refusals.specs.Refusals.{accepted}
use Rattle.offsets.specs.Subsets.{Subset, members}
use Rattle.constraints.specs.Constraints.{is_live}
use Rattle.plain_table.specs.Staged.{Opening}
use Rattle.plain_table.specs.Calls.{LentCall}
use Rattle.table.specs.Numbers.{range_view}
use Rattle.table.specs.Outcomes.{Stores, RowsSinceVersion}
use Rattle.history.specs.Histories.{Steps, History}
use Rattle.history.specs.Claim.{live_in}

-- row i as stored
abbrev pub stored_row : Stores → ℕ → List ℕ
stored_row s i = row_at s.header.columns i s.rows

-- the table `then`, when the copy was made, and `now`; `since` are the rows that it now answers as those since then
pub record Guaranteed (then now : Stores) (since : Subset) : Type 0 where
  -- "each row below the noted count either has the cells it had or is dead"
  pub kept_or_dead : (i : ℕ) → i < then.header.rows → (stored_row now i ≡ stored_row then i) ⊎ (is_live (stored_row now i) ≡ false)
  -- "the copied rows still live together with the live rows of the answer", numbers and cells, in order
  pub live_rows_shown : live_in now
      ≡ filter (λ row. is_live (stored_row now row.number)) (live_in then)
      ++ filter (λ row. elem row.number (members since)) (live_in now)

-- A note is taken at any moment of a history, "that version" being the generation and row count of that moment, and is accepted at
-- any later moment of it.
abbrev pub OldNote : Type 0
OldNote =
    (o : Opening) (generation : ℕ) (earlier later : List LentCall) (then now : Stores) (answer : Result (Optional Range) Refusal) (since : Subset)
    → History o generation earlier then → Steps then later now
    → RowsSinceVersion now.header then.header.generation then.header.rows answer → range_view answer ≡ accepted (some since)
    → Guaranteed then now since

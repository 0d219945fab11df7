-- Change 9, "Flash wears by rows rewritten": the rows that the calls of a history kept and dropped, and the rows appended. Merges
-- are counted by their answers, the caller's compactions and clears by the header before the call. Assumes nothing.
use Rattle.std.specs.Prelude.{ℕ, ◌+◌, ◌≤◌, ◌≡◌, List}
use Rattle.refusals.specs.Refusals.{if_accepted}
use Rattle.plain_table.specs.Staged.{Opening}
use Rattle.plain_table.specs.Plain.{Plain, opened, merge_keeps, merge_drops}
use Rattle.plain_table.specs.Calls.{LentCall}
use Rattle.plain_table.specs.Appending.{sum_over_merges, merge_adds}
use Rattle.refusals.specs.Refusals.{answer_view}
use Rattle.table.specs.Outcomes.{Stores}
use Rattle.history.specs.Histories.{Called, stages, merges, compacts, clears, refreshes, refreshes_unsound, called, Steps, end, next, History}

-- the row counts of calls
pub record Wear : Type 0 where
  -- "how many rows its own compaction kept .. and how many it dropped": from the answers of merges
  pub kept : ℕ
  pub dropped : ℕ
  -- dead rows dropped by "compactions asked for by the caller"
  pub compacted : ℕ
  -- "rows, live and dead, dropped by clears"
  pub emptied : ℕ

abbrev pub wear : ℕ → ℕ → ℕ → ℕ → Wear
wear kept dropped compacted emptied = record { kept = kept; dropped = dropped; compacted = compacted; emptied = emptied }

-- The counts of one call. A refused call counts nothing; an accepted compaction of the caller drops all dead rows, an accepted clear
-- all rows.
unfoldable pub wear_of_call : {s t : Stores} {c : LentCall} → Called s c t → Wear
wear_of_call (stages w r answer pending' m) = wear 0 0 0 0
wear_of_call (merges w answer b' w' m) = if_accepted (answer_view answer) (λ a. wear a.kept a.dropped 0 0) (wear 0 0 0 0)
wear_of_call {s} (compacts w answer b' w' m) = if_accepted (answer_view answer) (λ h. wear 0 0 s.header.dead 0) (wear 0 0 0 0)
wear_of_call {s} (clears w answer keys' m) = if_accepted (answer_view answer) (λ h. wear 0 0 0 s.header.rows) (wear 0 0 0 0)
wear_of_call (refreshes w r index answer pending' index' m sound) = wear 0 0 0 0
wear_of_call (refreshes_unsound w r index answer pending' index' m unsound) = wear 0 0 0 0

-- the counts of all calls
unfoldable pub wear_of_steps : {s t : Stores} {cs : List LentCall} → Steps s cs t → Wear
wear_of_steps (end s) = wear 0 0 0 0
wear_of_steps (next (called rest pending c) steps) =
    let a = wear_of_call c in
    let b = wear_of_steps steps in
    wear (a.kept + b.kept) (a.dropped + b.dropped) (a.compacted + b.compacted) (a.emptied + b.emptied)

-- `p` is the plain table before the calls, `w` are the counts of the calls, `rows` is the row count after them
pub record Priced (p : Plain) (calls : List LentCall) (w : Wear) (rows : ℕ) : Type 0 where
  -- "kept and dropped counts in the merge result equal the definition's, summed over a history"
  pub kept_sum : w.kept ≡ sum_over_merges merge_keeps p calls
  pub dropped_sum : w.dropped ≡ sum_over_merges merge_drops p calls
  -- "rows kept by merges' compactions together never exceed rows appended"
  pub kept_few : w.kept ≤ sum_over_merges merge_adds p calls
  -- "rows appended equal rows in the store plus dead rows dropped by any compaction plus rows, live and dead, dropped by clears"
  pub accounted : sum_over_merges merge_adds p calls ≡ rows + (w.dropped + w.compacted) + w.emptied

-- "Over any history of demand 3"
abbrev pub PriceOfCompaction : Type 0
PriceOfCompaction =
    (o : Opening) (generation : ℕ) (calls : List LentCall) (s : Stores) (h : History o generation calls s)
    → Priced (opened o generation) calls (wear_of_steps h.steps) s.header.rows

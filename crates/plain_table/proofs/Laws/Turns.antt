-- The paper's wrong turns and similar traps as test cases. Each is a list of calls that ends in a merge, with the result of that
-- merge; a program that takes the wrong turn has another result. One law states that all results are as listed. Assumes nothing.
use Rattle.plain_table.proofs.Laws.Prelude.{ℕ, ◌≡◌, refl, Bool, true, false, ◌&&◌, Bool·beq, List, [], ◌∷◌, ◌++◌, map, length, eqb}
use Rattle.lists.specs.Lists.{all, same, count, filter, iota, find}
use Rattle.refusals.specs.Refusals.{first_refusal, reply}
use Rattle.cells.specs.Cells.{is_dead}
use Rattle.merge_rules.specs.Rules.{ruled_column, signed, smaller, larger, taken, made_cell, made_from, changes_from, ruled}
use Rattle.plain_table.specs.Staged.{Opening, openable, insert, remove_key, remove_row, words_of, words_all, inserts, has_key, skipped, compaction_due}
use Rattle.plain_table.specs.Refusing.{stores_short, words_short, wrong_width, no_such_row, overfull, stage_checks, merge_checks, clear_checks}
use Rattle.plain_table.specs.Plain.{Plain, Numbered, live_from, live_rows, lookup, live, dead, opened, stage, live_with_key, kill_if, without_key, dies, without_row, removed as removals, below, stop, raised, append, upsert, insertion, Inserted, insert_all, applied, added, compacted, unstaged, compacts_after, merged, merge_keeps, merge_drops, cleared}
use Rattle.plain_table.specs.Calls.{Call, staging, merging, clearing, LentCall, refusal, done, after, after_all}

pub record Turn : Type 0 where
  pub opening : Opening
  pub before : List Call
  pub status : ℕ
  pub place : ℕ
  pub added : Bool
  pub keeps : ℕ
  pub drops : ℕ
  pub dead_after : ℕ
  pub live_after : List Numbered

abbrev row : ℕ → List ℕ → Numbered
row number cells = record { number = number; cells = cells }

-- key, level, stamp
abbrev level : ℕ → ℕ → ℕ → List ℕ
level key value stamp = key ∷ value ∷ stamp ∷ []

abbrev levels_under : ℕ → ℕ → Opening
levels_under rule capacity = record { columns = 3; keys = 1; sort = 2; rule = rule; capacity = capacity }

abbrev levels : ℕ → Opening
levels = levels_under 1

abbrev write : ℕ → ℕ → ℕ → Call
write key value stamp = staging (insert (level key value stamp))

abbrev remove : ℕ → Call
remove key = staging (remove_key (key ∷ []))

-- Keys 1 to 17, all with stamp 12, are merged and then staged for removal. The next merge removes them, and a compaction is due.
abbrev removed : List Call
removed =
    map (λ key. write key 5 12) (iota 1 17) ++ (merging ∷ map remove (iota 1 17))

abbrev dropped : List Call
dropped = removed ++ (merging ∷ [])

-- a merge without a compaction: its answer, and the number of dead rows and the live rows after it
abbrev merges : ℕ → ℕ → Bool → Opening → List Call → ℕ → List Numbered → Turn
merges status place added opening before dead_after live_after =
    record {
      opening = opening;
      before = before;
      status = status;
      place = place;
      added = added;
      keeps = 0;
      drops = 0;
      dead_after = dead_after;
      live_after = live_after;
    }

-- merges that do not stop: `appends` appends a row, `leaves` appends none
abbrev appends : Opening → List Call → ℕ → List Numbered → Turn
appends = merges 0 0 true

abbrev leaves : Opening → List Call → ℕ → List Numbered → Turn
leaves = merges 0 0 false

unfoldable pub turns : List Turn
turns =
    -- "Testing the sort order before the rule (l)": equal cells, a lower stamp
    leaves (levels 9) (write 1 5 12 ∷ merging ∷ write 1 5 11 ∷ []) 0 (row 0 (level 1 5 12) ∷ [])
    -- "Inserting before removing, which loses a key removed and staged again in one batch"
    ∷ appends (levels 9) (write 1 5 12 ∷ merging ∷ write 1 5 12 ∷ remove 1 ∷ []) 1 (row 1 (level 1 5 12) ∷ [])
    -- "Reading the sort cell of a dead row when the sort column is 0": the last row is dead, its sort cell was 7
    ∷ appends (record { columns = 1; keys = 1; sort = 0; rule = 0; capacity = 9 })
    (staging (insert (7 ∷ [])) ∷ merging ∷ remove 7 ∷ staging (insert (8 ∷ [])) ∷ []) 1 (row 1 (8 ∷ []) ∷ [])
    -- a known key with another level: the row that the rule makes is appended, and the old row dies
    ∷ appends (levels 9) (write 1 5 12 ∷ merging ∷ write 1 6 12 ∷ []) 1 (row 1 (level 1 6 12) ∷ [])
    -- a full table and an old stamp: 8 comes before 9; the stopping row is not appended, and its old row remains live
    ∷ merges 8 0 false (levels 1) (write 1 5 12 ∷ merging ∷ write 1 6 11 ∷ []) 0 (row 0 (level 1 5 12) ∷ [])
    -- a full table accepts an insert if the rule keeps the old row
    ∷ leaves (levels 1) (write 1 5 12 ∷ merging ∷ write 1 5 11 ∷ []) 0 (row 0 (level 1 5 12) ∷ [])
    -- a skipped insert counts for the place; inserts before the stop take effect, those after it are dropped
    ∷ merges 9 2 true (levels 9)
    (write 1 5 12 ∷ write 4294967295 5 12 ∷ write 2 5 11 ∷ write 3 5 12 ∷ []) 0 (row 0 (level 1 5 12) ∷ [])
    -- a row dies once, by key and by row; another key's removal by row does nothing
    ∷ leaves (levels 9)
    (write 1 5 12 ∷ write 2 5 12 ∷ merging ∷ staging (remove_row 0 (1 ∷ [])) ∷ remove 1 ∷ staging (remove_row 1 (1 ∷ [])) ∷ []) 1 (row 1 (level 2 5 12) ∷ [])
    -- a merge that stops does not compact, although all its 17 rows are dead
    ∷ merges 9 0 false (levels 20) (removed ++ (write 30 5 11 ∷ [])) 17 []
    -- "4294967295 means minus one": rule 2 replaces 5 with it
    ∷ appends (levels_under 2 9) (write 1 5 12 ∷ merging ∷ write 1 4294967295 12 ∷ []) 1 (row 1 (level 1 4294967295 12) ∷ [])
    -- 2147483648 means the least number: rule 3 keeps minus one
    ∷ leaves (levels_under 3 9) (write 1 4294967295 12 ∷ merging ∷ write 1 2147483648 12 ∷ []) 0 (row 0 (level 1 4294967295 12) ∷ [])
    -- a compaction drops every row of stamp 12, and stamp 11 still stops
    ∷ merges 9 0 false (levels 20) (dropped ++ (write 30 5 11 ∷ [])) 0 []
    -- the same after a clear of that table, which has no rows
    ∷ merges 9 0 false (levels 20) (dropped ++ (clearing ∷ write 30 5 11 ∷ [])) 0 []
    -- a clear that empties rows, here only a dead one, resets the largest sort value
    ∷ appends (levels 9) (write 1 5 12 ∷ merging ∷ remove 1 ∷ merging ∷ clearing ∷ write 2 5 11 ∷ []) 0 (row 0 (level 2 5 11) ∷ [])
    -- a merge answers how many rows its compaction kept and dropped: 17 of 19 rows are dead
    ∷ record {
      opening = levels 20;
      before = removed ++ (write 30 5 12 ∷ write 31 5 13 ∷ []);
      status = 0;
      place = 0;
      added = true;
      keeps = 2;
      drops = 17;
      dead_after = 0;
      live_after = row 0 (level 30 5 12) ∷ row 1 (level 31 5 13) ∷ [];
    }
    -- the sort value of a row that was appended before a stop counts
    ∷ merges 9 0 false (levels 9) (write 1 5 12 ∷ write 2 5 11 ∷ merging ∷ write 3 5 11 ∷ []) 0 (row 0 (level 1 5 12) ∷ [])
    ∷ []

abbrev same_row : Numbered → Numbered → Bool
same_row a b = eqb a.number b.number && same a.cells b.cells

unfoldable same_rows : List Numbered → List Numbered → Bool
same_rows [] [] = true
same_rows [] (b ∷ bs) = false
same_rows (a ∷ rest) [] = false
same_rows (a ∷ rest) (b ∷ bs) = same_row a b && same_rows rest bs

abbrev lent : Call → LentCall
lent call =
    record { call = call; lengths = record { rows = 60; keys = 40; sorts = 40; pending = 100; live_words = 1; base_words = 1 } }

-- the table before the last merge, and the result of that merge
abbrev table_before : Turn → Plain
table_before t = after_all (opened t.opening 0) (map lent t.before)

abbrev merge_result : Turn → Inserted
merge_result t = merged (table_before t)

unfoldable pub is_as_expected : Turn → Bool
unfolding same_rows
is_as_expected t =
    eqb (merge_result t).status t.status
    && eqb (merge_result t).place t.place
    && Bool·beq (added (table_before t)) t.added
    && eqb (merge_keeps (table_before t)) t.keeps
    && eqb (merge_drops (table_before t)) t.drops
    && eqb (dead (merge_result t).table) t.dead_after
    && eqb (length (merge_result t).table.staged) 0
    && same_rows (live_rows (merge_result t).table) t.live_after

pub all_as_expected : all is_as_expected turns ≡ true
unfolding all same count filter iota find first_refusal reply is_dead ruled_column signed smaller larger taken made_cell made_from changes_from ruled openable words_of words_all inserts has_key skipped compaction_due stores_short words_short wrong_width no_such_row overfull stage_checks merge_checks clear_checks live_from live_rows lookup live dead opened stage live_with_key kill_if without_key dies without_row removals below stop raised append upsert insertion insert_all applied added compacted unstaged compacts_after merged merge_keeps merge_drops cleared refusal done after after_all turns same_rows is_as_expected
all_as_expected = refl

-- The plain table (document 01, "Plain table"): a table without header, stores and key index. Assumes nothing.
use Rattle.std.specs.Prelude.{ℕ, zero, suc, ◌+◌, max, Bool, true, false, cond, not, ◌&&◌, length, take, get_or, leb, ltb, eqb}
use mathlib.Core.List.{List, [], ◌∷◌, ◌++◌, map, foldl}
use Rattle.std.proofs.Math.Option.{Option, none, some}
use Rattle.lists.specs.Lists.{filter, count, find}
use Rattle.refusals.specs.Refusals.{check, first_refusal, Reply, refused, accepted, reply}
use Rattle.merge_rules.specs.Rules.{ruled}
use Rattle.plain_table.specs.Staged.{Opening, Staged, insert, remove_key, remove_row, inserts, has_key, skipped, compaction_due}

-- "rows live or dead": "dead rows keep their cells until compaction drops them"
pub record Row : Type 0 where
  pub live : Bool
  pub cells : List ℕ

abbrev pub dead_row : Row → Row
dead_row row = record { live = false; cells = row.cells }

-- "an opening's numbers, a generation, rows live or dead, numbered from 0, staged records in order", and (change 7) "the
-- largest sort value appended since opening or the last clear that emptied rows, and whether there is one"
pub record Plain : Type 0 where
  pub opening : Opening
  pub generation : ℕ
  pub rows : List Row
  pub staged : List Staged
  pub largest : Option ℕ

-- the table with the same opening and other parts
abbrev pub with : Plain → ℕ → List Row → List Staged → Option ℕ → Plain
with p generation rows staged largest =
    record { opening = p.opening; generation = generation; rows = rows; staged = staged; largest = largest }

abbrev pub with_rows : Plain → List Row → Plain
with_rows p rows = with p p.generation rows p.staged p.largest

-- a row with its number
pub record Numbered : Type 0 where
  pub number : ℕ
  pub cells : List ℕ

-- the live ones of these rows, in order, each with its number; the first of the rows, live or dead, has number n
unfoldable pub live_from : ℕ → List Row → List Numbered
live_from n [] = []
live_from n (row ∷ rows) =
    cond row.live (record { number = n; cells = row.cells } ∷ live_from (suc n) rows) (live_from (suc n) rows)

unfoldable pub live_rows : Plain → List Numbered
live_rows p = live_from 0 p.rows

-- the live row of a key, if there is one: "from a key .. to its one live row"
unfoldable pub lookup : Plain → List ℕ → Option Numbered
lookup p key = find (λ row. has_key p.opening.keys key row.cells) (live_rows p)

unfoldable pub live : Plain → ℕ
live p = count (λ row. row.live) p.rows

unfoldable pub dead : Plain → ℕ
dead p = count (λ row. not row.live) p.rows

-- Open: "Empties the table"
unfoldable pub opened : Opening → ℕ → Plain
opened o generation = record { opening = o; generation = generation; rows = []; staged = []; largest = none }

-- Stage insert, removal by key, removal by row
unfoldable pub stage : Plain → Staged → Plain
stage p r = with p p.generation p.rows (p.staged ++ (r ∷ [])) p.largest

-- Merge

-- a live row of this key
unfoldable pub live_with_key : ℕ → List ℕ → Row → Bool
live_with_key keys key row = row.live && has_key keys key row.cells

-- every row that passes the test dies
unfoldable pub kill_if : (Row → Bool) → List Row → List Row
kill_if test rows = map (λ row. cond (test row) (dead_row row) row) rows

-- applies a removal by key; ignores other records
unfoldable pub without_key : Plain → Staged → Plain
without_key p (insert cells) = p
without_key p (remove_key key) = with_rows p (kill_if (live_with_key p.opening.keys key) p.rows)
without_key p (remove_row row key) = p

-- "A removal by row works if that row still exists, is live and has that key"
unfoldable pub dies : ℕ → List ℕ → ℕ → List Row → List Row
dies keys key number [] = []
dies keys key zero (row ∷ rows) = cond (live_with_key keys key row) (dead_row row) row ∷ rows
dies keys key (suc number) (row ∷ rows) = row ∷ dies keys key number rows

-- applies a removal by row; ignores other records
unfoldable pub without_row : Plain → Staged → Plain
without_row p (insert cells) = p
without_row p (remove_key key) = p
without_row p (remove_row row key) = with_rows p (dies p.opening.keys key row p.rows)

-- "takes removals by key, then removals by row, .. each in staging order": `foldl` applies the records in order
unfoldable pub removed : Plain → Plain
removed p = foldl without_row (foldl without_key p p.staged) p.staged

-- "a sort value below that kept value", if there is one
unfoldable pub below : ℕ → Option ℕ → Bool
below value none = false
below value (some largest) = ltb value largest

-- "8, row count equals capacity, tested before 9", which (change 7) "is now given for a sort value below that kept value"
unfoldable pub stop : List ℕ → Plain → ℕ
stop cells p =
    first_refusal (check (leb p.opening.capacity (length p.rows)) 8 ∷ check (below (get_or cells p.opening.sort 0) p.largest) 9 ∷ [])

-- the largest value after this one is appended
unfoldable pub raised : ℕ → Option ℕ → ℕ
raised value none = value
raised value (some largest) = max value largest

-- the table with these rows followed by a live row of these cells
abbrev pub with_row : Plain → List Row → List ℕ → Plain
with_row p rows cells =
    with p p.generation (rows ++ (record { live = true; cells = cells } ∷ [])) p.staged (some (raised (get_or cells p.opening.sort 0) p.largest))

-- The result of an insert: `refused` with the number that stops the merge, or `accepted` with the table after it.

-- appends a row to these rows, unless that stops
unfoldable pub append : List ℕ → Plain → List Row → Reply Plain
append cells p rows = reply (stop cells p) (with_row p rows cells)

-- "A new key is appended. A known key goes through the rule; a row so made is appended and the old row dies"
unfoldable pub upsert : List ℕ → Option Numbered → Plain → Reply Plain
upsert cells none p = append cells p p.rows
upsert cells (some old) p =
    elim (ruled p.opening.rule p.opening.keys p.opening.sort old.cells cells) [
      | none ↦ accepted p
      | some row ↦ append row p (kill_if (live_with_key p.opening.keys (take p.opening.keys cells)) p.rows)
    ]

unfoldable pub insertion : List ℕ → Plain → Reply Plain
insertion cells p = cond (skipped cells) (accepted p) (upsert cells (lookup p (take p.opening.keys cells)) p)

-- the result of a merge's inserts: the table, and the stop's number and place ("both 0 if not stopped")
pub record Inserted : Type 0 where
  pub table : Plain
  pub status : ℕ
  pub place : ℕ

abbrev pub inserted : Plain → ℕ → ℕ → Inserted
inserted p status place = record { table = p; status = status; place = place }

-- the inserts from this place on, counted "among all staged inserts from 0", until one must be appended and cannot be
unfoldable pub insert_all : List (List ℕ) → ℕ → Plain → Inserted
insert_all [] place p = inserted p 0 0
insert_all (cells ∷ rest) place p =
    elim (insertion cells p) [
      | refused number ↦ inserted p number place
      | accepted p' ↦ insert_all rest (suc place) p'
    ]

-- ".. then inserts"
unfoldable pub applied : Plain → Inserted
applied p = insert_all (inserts p.staged) 0 (removed p)

-- "*added*: a row was appended": the inserts leave more rows than the merge began with
unfoldable pub added : Plain → Bool
added p = ltb (length p.rows) (length (applied p).table.rows)

-- Compaction: "drops them and the others close up in order", "the generation rises by one"
unfoldable pub compacted : Plain → Plain
compacted p = with p (p.generation + 1) (filter (λ row. row.live) p.rows) p.staged p.largest

unfoldable pub unstaged : Plain → Plain
unstaged p = with p p.generation p.rows [] p.largest

-- whether a merge compacts if its inserts have this status and leave this table: if it stopped, "no compaction follows"
unfoldable pub compacts_after : ℕ → Plain → Bool
compacts_after status p = eqb status 0 && compaction_due (dead p) (length p.rows) p.generation

-- the result of a merge: stopped or not, "pending is emptied"
unfoldable pub merged : Plain → Inserted
merged p =
    let m = applied p in
    inserted (cond (compacts_after m.status m.table) (compacted (unstaged m.table)) (unstaged m.table)) m.status m.place

-- (change 9) "how many rows its own compaction kept, 0 if there was none, and how many it dropped": the live and the dead rows
-- before that compaction
unfoldable pub merge_keeps : Plain → ℕ
merge_keeps p = let m = applied p in cond (compacts_after m.status m.table) (live m.table) 0

unfoldable pub merge_drops : Plain → ℕ
merge_drops p = let m = applied p in cond (compacts_after m.status m.table) (dead m.table) 0

-- Clear: "Unless refused, empties pending; with rows, the rest too, and the generation rises by one". With rows, only the
-- opening's numbers remain, and the generation rises by one. Without rows, all but the staged records remains, the largest value too.
unfoldable pub cleared : Plain → Plain
cleared p = cond (ltb 0 (length p.rows)) (opened p.opening (p.generation + 1)) (unstaged p)

-- Refreshing rows that mention a value (document 02, change 2), on a plain table. Assumes nothing.
use Rattle.std.specs.Prelude.{ℕ, ◌+◌, ◌*◌, Bool, not, List, [], ◌∷◌, map, length, take, get_or, set, ltb}
use Rattle.std.proofs.Math.Option.{Option}
use Rattle.lists.specs.Lists.{filter, all, any, flatten, elem}
use Rattle.refusals.specs.Refusals.{check, first_refusal}
use Rattle.plain_table.specs.Staged.{Opening, Staged, insert, remove_row}
use Rattle.plain_table.specs.Refusing.{overfull}
use Rattle.plain_table.specs.Plain.{Numbered, Plain, live_rows, below}

-- "The caller names up to eight columns, a list of changed values and a stamp"
pub record Refresh : Type 0 where
  pub columns : List ℕ
  pub values : List ℕ
  pub stamp : ℕ

-- "holding such a value in such a column": columns, values, and a row's cells
unfoldable pub mentions : List ℕ → List ℕ → List ℕ → Bool
mentions columns values cells = any (λ column. elem (get_or cells column 0) values) columns

-- "Each live row holding such a value in such a column", "in rising row order"
unfoldable pub mentioning : Refresh → Plain → List Numbered
mentioning r p = filter (λ row. mentions r.columns r.values row.cells) (live_rows p)

-- "is staged for removal by row and for insertion with the stamp as its sort cell"
unfoldable pub restamping : Opening → ℕ → Numbered → List Staged
restamping o stamp row = remove_row row.number (take o.keys row.cells) ∷ insert (set row.cells o.sort stamp) ∷ []

-- the records of these rows, row by row
unfoldable pub refreshed : Opening → ℕ → List Numbered → List Staged
refreshed o stamp rows = flatten (map (restamping o stamp) rows)

-- "an index store shorter than 16 words plus 3 for each row of the capacity and named column"; "a repeat counts again, for the
-- store's length too"
unfoldable pub index_short : Opening → List ℕ → ℕ → Bool
index_short o columns index = ltb index (16 + 3 * (o.capacity * length columns))

-- "After 1 and 2 comes 12, more than eight columns named .., then 6, then 2 for an index store .., then 9, a stamp below the last
-- entry's" (since change 7 the kept value), "then 7, fewer free words than all the records together take": `words` is the number of
-- words that they take. The first 2 tests only the row store, since the pending store may have any length.
unfoldable pub refresh_checks : Bool → Opening → Option ℕ → Refresh → ℕ → ℕ → ℕ → ℕ → ℕ → ℕ
refresh_checks outside o largest r rows index used pending words =
    first_refusal
    (check outside 1
    ∷ check (ltb rows (o.capacity * o.columns)) 2
    ∷ check (ltb 8 (length r.columns)) 12
    ∷ check (not (all (λ column. ltb column o.columns) r.columns)) 6
    ∷ check (index_short o r.columns index) 2
    ∷ check (below r.stamp largest) 9
    ∷ check (overfull used pending words) 7
    ∷ [])

-- The refusals of each call (document 01, "Operations and what each turns away"), as lists of checks over the numbers that they
-- read: an opening's numbers, the generation, the row count, the pending words used, and the lengths of the lent stores. A plain
-- table and a header share these checks. The argument `outside` is whether test 1 applies, since a header and a plain table test it
-- differently. Each function returns the first number that applies, 0 if none. Assumes nothing.
use Rattle.std.specs.Prelude.{ℕ, ◌+◌, ◌*◌, ◌/◌, Bool, false, not, ◌&&◌, ◌||◌, [], ◌∷◌, length, leb, ltb, eqb}
use Rattle.refusals.specs.Refusals.{check, first_refusal}
use Rattle.plain_table.specs.Staged.{Opening, openable, Staged, insert, remove_key, remove_row, words_of}

-- the lengths of the stores that a call is lent
pub record Lengths : Type 0 where
  pub rows : ℕ
  pub keys : ℕ
  pub sorts : ℕ
  pub pending : ℕ
  pub live_words : ℕ
  pub base_words : ℕ

-- "rows, capacity times columns; keys, 2 times capacity; sort entries, 2 times capacity"
unfoldable pub stores_short : Opening → Lengths → Bool
stores_short o l = ltb l.rows (o.capacity * o.columns) || ltb l.keys (2 * o.capacity) || ltb l.sorts (2 * o.capacity)

-- "compaction words, capacity over 64 rounded up of u64 and of u32"
unfoldable pub words_short : Opening → Lengths → Bool
words_short o l = ltb l.live_words ((o.capacity + 63) / 64) || ltb l.base_words ((o.capacity + 63) / 64)

-- "wrong number of cells"
unfoldable pub wrong_width : Opening → Staged → Bool
wrong_width o (insert cells) = not (eqb (length cells) o.columns)
wrong_width o (remove_key key) = not (eqb (length key) o.keys)
wrong_width o (remove_row row key) = not (eqb (length key) o.keys)

-- "row not below the row count"
unfoldable pub no_such_row : ℕ → Staged → Bool
no_such_row rows (insert cells) = false
no_such_row rows (remove_key key) = false
no_such_row rows (remove_row row key) = leb rows row

-- "fewer free pending words than the record takes". Ours, not the paper's (docs/DECISIONS.md, "Pending words beyond a u32"): also if
-- the number of words used would not fit a u32
unfoldable pub overfull : ℕ → ℕ → ℕ → Bool
overfull used pending words = ltb pending (used + words) || ltb 4294967295 (used + words)

-- *Open*: 1, 2
unfoldable pub open_refusal : Opening → Lengths → ℕ
open_refusal o l = first_refusal (check (not (openable o)) 1 ∷ check (stores_short o l) 2 ∷ [])

-- *Stage*: 1, 3, 5, 7
unfoldable pub stage_checks : Bool → Opening → ℕ → ℕ → ℕ → Staged → ℕ
stage_checks outside o count used pending r =
    first_refusal (check outside 1 ∷ check (wrong_width o r) 3 ∷ check (no_such_row count r) 5 ∷ check (overfull used pending (words_of o r)) 7 ∷ [])

-- *Merge*: 1, 2
unfoldable pub merge_checks : Bool → Opening → Lengths → ℕ
merge_checks outside o l = first_refusal (check outside 1 ∷ check (stores_short o l || words_short o l) 2 ∷ [])

-- *Compact* (`rehash`): 1, 2, 10
unfoldable pub compact_checks : Bool → Opening → ℕ → Lengths → ℕ
compact_checks outside o generation l =
    first_refusal (check outside 1 ∷ check (stores_short o l || words_short o l) 2 ∷ check (eqb generation 4294967295) 10 ∷ [])

-- *Clear*: 1, 2, 10 "only if there are rows"
unfoldable pub clear_checks : Bool → Opening → ℕ → ℕ → ℕ → ℕ
clear_checks outside o generation rows keys =
    first_refusal (check outside 1 ∷ check (ltb keys (2 * o.capacity)) 2 ∷ check (eqb generation 4294967295 && ltb 0 rows) 10 ∷ [])

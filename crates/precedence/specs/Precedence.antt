-- Before comes first (document 02, change 8): "A level after the diplexer counts only if the level before it was on file by then."
-- Which live rows of a plain table fail a pair of values, and the answer of the check. Assumes nothing.
use Rattle.refusals.specs.declared.Refusal.{Refusal}
use Rattle.std.specs.Prelude.{ℕ, suc, ◌+◌, ◌/◌, ◌%◌, ◌≡◌, Bool, cond, not, ◌&&◌, ◌||◌, List, [], ◌∷◌, ◌++◌, length, take, drop, get_or, leb, ltb, eqb, Result, Option as Optional}
use Rattle.std.proofs.Math.Option.{Option, none, some, Option-elim}
use Rattle.lists.specs.Lists.{any, same}
use Rattle.refusals.specs.Refusals.{check, first_refusal, accepted, reply, outcome, found_view}
use Rattle.key_index.specs.Slots.{KeysSound}
use Rattle.plain_table.specs.Staged.{Opening}
use Rattle.plain_table.specs.Plain.{Plain, Numbered, live_rows}
use Rattle.table.specs.declared.Header.{Header}
use Rattle.table.specs.Refusing.{outside, rows_short, pairs_short}
use Rattle.table.specs.Sound.{index_shape_of, KeysDiffer}
use Rattle.table.specs.Outcomes.{of_rows}
use Rattle.precedence.specs.declared.Failure.{Failure}

-- a pair of values: a row with the first needs a row with the second
pub record Pair : Type 0 where
  pub first : ℕ
  pub second : ℕ

-- "1 to 16 pairs of values", in two words each
unfoldable pub pairs_of : List ℕ → List Pair
pairs_of [] = []
pairs_of (word ∷ []) = []
pairs_of (a ∷ b ∷ words) = record { first = a; second = b } ∷ pairs_of words

-- the "other key cells" of a row: all but that of the column
unfoldable pub other_key_cells : ℕ → ℕ → List ℕ → List ℕ
other_key_cells keys column cells = take column (take keys cells) ++ drop (column + 1) (take keys cells)

-- whether a row with the cells `before` meets the need of a row with these cells: "with the second value there, the same other key
-- cells and a sort cell no larger". "A pair of two equal values is met by the row itself" is a law (`equal_met`)
unfoldable pub precedes : Opening → ℕ → ℕ → List ℕ → List ℕ → Bool
precedes o column value cells before =
    eqb (get_or before column 0) value
    && same (other_key_cells o.keys column before) (other_key_cells o.keys column cells)
    && leb (get_or before o.sort 0) (get_or cells o.sort 0)

-- "each live row with a pair's first value in that column needs a live row with the second value there, .."
unfoldable pub meets_pair : Plain → ℕ → List ℕ → Pair → Bool
meets_pair p column cells pair =
    not (eqb (get_or cells column 0) pair.first) || any (λ row. precedes p.opening column pair.second cells row.cells) (live_rows p)

-- the place of the first element that fails a test, if there is one; the first element has place n
unfoldable pub first_failing : {A : Type 0} → (A → Bool) → ℕ → List A → Option ℕ
first_failing test n [] = none
first_failing test n (x ∷ xs) = cond (test x) (first_failing test (suc n) xs) (some n)

-- the first of these rows that fails; "A row named by several pairs must meet them all"
unfoldable pub failure_among : Plain → ℕ → List Pair → List Numbered → Option Failure
failure_among p column pairs [] = none
failure_among p column pairs (row ∷ rows) =
    Option-elim (first_failing (meets_pair p column row.cells) 0 pairs) (failure_among p column pairs rows) (λ place. some (record { row = row.number; place = place }))

-- "The answer is the lowest row that fails with the place, from 0, of the first pair it fails, or none"
unfoldable pub precedence_failure : Plain → ℕ → List Pair → Option Failure
precedence_failure p column pairs = failure_among p column pairs (live_rows p)

-- "After 1 and 2 comes 6, a column that is not a key column, then 14, a number of pairs outside 1 to 16". Test 2 concerns the row
-- store and the key store (`pairs_short`: two words for each row of the capacity). An odd number of words is refused
-- with 14 too
unfoldable pub precedence_refusal : Header → ℕ → ℕ → ℕ → ℕ → ℕ
precedence_refusal h rows keys column words =
    first_refusal
    (check (outside h) 1
    ∷ check (rows_short h rows || pairs_short h keys) 2
    ∷ check (leb h.keys column) 6
    ∷ check (not (eqb (words % 2) 0) || ltb (words / 2) 1 || ltb 16 (words / 2)) 14
    ∷ [])

-- Contract of the check. It uses the lent rows and keys only, and its answer is that for a plain table of these rows, provided that
-- the key store is sound and live keys differ.
pub record PrecedenceChecked (h : Header) (rows keys : List ℕ) (column : ℕ) (pairs : List ℕ) (answer : Result (Optional Failure) Refusal) : Type 0 where
  pub refusal : outcome (found_view answer) ≡ reply (precedence_refusal h (length rows) (length keys) column (length pairs)) tt
  pub table : precedence_refusal h (length rows) (length keys) column (length pairs) ≡ 0 → KeysSound (index_shape_of h) rows keys → KeysDiffer h rows
      → found_view answer ≡ accepted (precedence_failure (of_rows h rows) column (pairs_of pairs))

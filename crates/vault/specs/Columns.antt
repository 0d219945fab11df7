-- Column order for the vault (document 02, change 5): a list of rows, column after column, each cell but a column's first replaced
-- by its difference from the cell above; and the inverse. Over lists of cells, for every width at once. Assumes nothing.
use Rattle.std.specs.Prelude.{◌≡◌, ℕ, ◌+◌, ◌-◌, ◌/◌, ◌%◌, ◌^◌, ◌<◌, not, ◌||◌, List, [], ◌∷◌, ◌++◌, map, length, take, drop, ◌==◌, nat_lt, slice_index, Result}
use mathlib.Core.List.{zip_with}
use Rattle.lists.specs.Lists.{splice, rows_of, flatten, iota}
use Rattle.refusals.specs.Refusals.{check, first_refusal, answer_view, Effect}
use Rattle.refusals.specs.declared.Refusal.{Refusal}

-- "its difference from the cell above, modulo 2^32"
unfoldable pub minus : ℕ → ℕ → ℕ
minus cell above = (cell + (2 ^ 32 - above)) % 2 ^ 32

-- "each cell but a column's first replaced": the first cell, then each later cell's difference from the one before
unfoldable pub differences : List ℕ → List ℕ
differences cells = take 1 cells ++ zip_with minus (drop 1 cells) cells

-- the inverse: each difference replaced by its sum with the cell above, modulo 2^32
unfoldable pub sums_below : ℕ → List ℕ → List ℕ
sums_below above [] = []
sums_below above (d ∷ ds) = let cell = (d + above) % 2 ^ 32 in cell ∷ sums_below cell ds

unfoldable pub sums : List ℕ → List ℕ
sums [] = []
sums (cell ∷ ds) = cell ∷ sums_below cell ds

-- the first n columns of these rows; applied to all columns and the number of rows, it gives the rows back
unfoldable pub transposed : ℕ → List (List ℕ) → List (List ℕ)
transposed n rows = map (λ j. map (λ row. slice_index row j) rows) (iota 0 n)

-- "a rearrangement of a list of rows: all cells of the first column, then the second, and so on"
unfoldable pub to_columns : ℕ → List ℕ → List ℕ
to_columns width cells = flatten (map differences (transposed width (rows_of width (length cells / width) cells)))

-- "the inverse"
unfoldable pub from_columns : ℕ → List ℕ → List ℕ
from_columns width cells = flatten (transposed (length cells / width) (map sums (rows_of (length cells / width) width cells)))

-- "1, a width outside 1 to 8, then 13, a length that is not a multiple of the width, then 2, an output shorter than the
-- input"
unfoldable pub columns_refusal : ℕ → ℕ → ℕ → ℕ
columns_refusal width cells output =
    first_refusal (check (nat_lt width 1 || nat_lt 8 width) 1 ∷ check (not (cells % width == 0)) 13 ∷ check (nat_lt output cells) 2 ∷ [])

-- Contract of either direction: the cells in the other order at the start of the output, and nothing changed past them; on refusal
-- nothing changed at all.
pub record Rearranged (order : ℕ → List ℕ → List ℕ) (width : ℕ) (cells output : List ℕ) (answer : Result (Unit {0}) Refusal) (output' : List ℕ) : Type 0 where
  pub effect : Effect (columns_refusal width (length cells) (length output)) (answer_view answer) tt output output' (splice output 0 (order width cells))

-- "Applying either after the other restores the cells for every list and every width from 1 to 8": for every width but 0 that
-- divides the list's length, its cells being u32
abbrev pub Restores : Type 0
Restores = (width : ℕ) (cells : List ℕ) → 0 < width → length cells % width ≡ 0 → ((i : ℕ) → slice_index cells i < 2 ^ 32)
    → (from_columns width (to_columns width cells) ≡ cells) × (to_columns width (from_columns width cells) ≡ cells)

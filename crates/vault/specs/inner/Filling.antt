-- Contracts of the loops: the output is filled by blocks of rows, in each block column by column. Assumes nothing.
use Rattle.std.specs.Prelude.{◌≡◌, ℕ, zero, suc, ◌+◌, ◌*◌, ◌%◌, ◌<◌, ◌≤◌, List, length, slice_index}

-- the cell above the cell of a row and column, where rows of this width follow one another; 0 above the first row
unfoldable pub cell_above : ℕ → ℕ → List ℕ → ℕ → ℕ
cell_above width column cells zero = 0
cell_above width column cells (suc row) = slice_index cells (row * width + column)

-- this number of rows of this width, and room for them
pub record Shaped (width rows : ℕ) (cells output : List ℕ) : Type 0 where
  pub some : 0 < width
  pub whole : length cells ≡ rows * width
  pub room : length cells ≤ length output

-- these rows are a part of all rows
pub record Within (start end rows : ℕ) : Type 0 where
  pub forward : start ≤ end
  pub inside : end ≤ rows

-- the place of the cell of a row and column, for a width and a number of rows: in column order, in row order
abbrev pub by_columns : ℕ → ℕ → ℕ → ℕ → ℕ
by_columns width rows row column = column * rows + row

abbrev pub by_rows : ℕ → ℕ → ℕ → ℕ → ℕ
by_rows width rows row column = row * width + column

-- The places of these rows and columns have the target's cells. Every other place that had the target's cell still has it. Past the
-- target nothing has changed.
pub record Filled (target : List ℕ) (place : ℕ → ℕ → ℕ) (row₀ row₁ column₀ column₁ : ℕ) (output output' : List ℕ) : Type 0 where
  pub same : length output' ≡ length output
  pub filled : (row column : ℕ) → row₀ ≤ row → row < row₁ → column₀ ≤ column → column < column₁
      → slice_index output' (place row column) ≡ slice_index target (place row column)
  pub kept : (at : ℕ) → slice_index output at ≡ slice_index target at → slice_index output' at ≡ slice_index target at
  pub past : (at : ℕ) → length target ≤ at → slice_index output' at ≡ slice_index output at

-- A direction, given by the cells as it writes them and by the place of the cell of a row and column: it writes as many cells as it
-- reads, and each place is that of one cell.
pub record DirectionLaws (order : ℕ → List ℕ → List ℕ) (place : ℕ → ℕ → ℕ → ℕ → ℕ) : Type 0 where
  pub long : (width : ℕ) (cells : List ℕ) → 0 < width → length cells % width ≡ 0 → length (order width cells) ≡ length cells
  pub where_is : (width rows at : ℕ) → at < rows * width → (row : ℕ) × (column : ℕ) × (row < rows) × (column < width) × (at ≡ place width rows row column)

-- the rows above are already written
abbrev pub Begun : (ℕ → List ℕ → List ℕ) → (ℕ → ℕ → ℕ → ℕ → ℕ) → ℕ → ℕ → ℕ → List ℕ → List ℕ → Type 0
Begun order place width rows start cells output =
    (row column : ℕ) → row < start → column < width
    → slice_index output (place width rows row column) ≡ slice_index (order width cells) (place width rows row column)

-- Positions of a row and of its key in the row store; stores of the same length fit a table too. Assumes nothing.
use Rattle.std.specs.Prelude.{◌+◌, ◌-◌, ◌*◌, ◌≤◌, ◌<◌, ◌≡◌}
use Rattle.key_index.specs.Laws.Prelude.{ℕ, sym, ◌∙◌, List, mul-le-mul, arith, length, take, drop, part_width, row_in, key_row, IndexShape, key_at, RowsIn, Fits}

-- a row is inside the store, and its position fits a word
pub record Inside (rows : List ℕ) (columns row : ℕ) : Type 0 where
  pub in_store : row * columns + columns ≤ length rows
  pub small : row * columns + columns ≤ 524288

pub inside : (rows : List ℕ) (columns count row : ℕ) → count ≤ 65536 → columns ≤ 8 → count * columns ≤ length rows → row < count → Inside rows columns row
inside rows columns count row few narrow long h =
    let a = row_in row count columns h in
    let b = mul-le-mul few narrow in
    record { in_store = omega arith; small = omega arith }

pub row_inside : (t : IndexShape) (rows : List ℕ) (row : ℕ) → RowsIn t rows → row < t.rows → Inside rows t.columns row
row_inside t rows row f h = inside rows t.columns t.rows row (omega (arith, f.most, f.count)) f.most_columns f.cells h

-- the borrowed part of a row is its key
pub key_part : (t : IndexShape) (rows : List ℕ) (row : ℕ) → t.keys ≤ t.columns → let from = row * t.columns in
    take (from + t.keys - from) (drop from rows) ≡ key_at t rows row
key_part t rows row h = part_width rows (row * t.columns) t.keys ∙ sym (key_row t.columns row t.keys rows h)

pub fits_stores : {t : IndexShape} {rows store : List ℕ} → Fits t rows store → (rows' store' : List ℕ) → length rows' ≡ length rows → length store' ≡ length store → Fits t rows' store'
fits_stores f rows' store' er es =
    record {
      some_columns = f.some_columns;
      most_columns = f.most_columns;
      some_keys = f.some_keys;
      most_keys = f.most_keys;
      some = f.some;
      most = f.most;
      count = f.count;
      cells = rw er f.cells;
      long = rw es f.long;
    }

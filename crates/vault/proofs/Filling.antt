-- The output filled cell by cell, column by column, block by block, and all of it. Assumes nothing.
use Rattle.vault.proofs.Prelude.{ℕ, zero, suc, ◌+◌, ◌-◌, ◌*◌, ◌%◌, ◌^◌, ◌≤◌, ◌<◌, ◌≡◌, refl, sym, ap, subst, ◌∙◌, arith, List, zero-add, zero-mul, suc-mul, mul_comm, mul-le-mul_right, dec_lt, ℕ_discrete, add-one, length, get_or, set, length-set, get_or-set_same, get_or-set_other, ext_get_or, splice, length_splice, get_d_splice_in, get_d_splice_after, row_in, Cells, length_to, length_from, to_place, from_place}
use Rattle.vault.specs.Columns.{minus, to_columns, from_columns}
use Rattle.vault.specs.inner.Filling.{cell_above, Shaped, Within, by_columns, by_rows, Filled, Begun}

module _ {target : List ℕ} {place : ℕ → ℕ → ℕ} where
  -- no row, or no column
  pub filled_none : {row column column' : ℕ} {output : List ℕ} → Filled target place row row column column' output output
  filled_none = record { same = refl; filled = λ r c a b. absurd (omega arith); kept = λ at e. e; past = λ at h. refl }

  pub filled_nothing : {row row' column : ℕ} {output : List ℕ} → Filled target place row row' column column output output
  filled_nothing = record { same = refl; filled = λ r c a b d e. absurd (omega arith); kept = λ at e. e; past = λ at h. refl }

  -- more columns, more rows
  pub filled_columns : {row row' column column' column'' : ℕ} {output output' output'' : List ℕ}
      → Filled target place row row' column column' output output' → Filled target place row row' column' column'' output' output''
      → Filled target place row row' column column'' output output''
  filled_columns {column' = column'} x y =
      record {
        same = y.same ∙ x.same;
        filled = λ r c a b d e. elim (dec_lt c column') [ yes h ↦ y.kept _ (x.filled r c a b d h) | no h ↦ y.filled r c a b (omega arith) e ];
        kept = λ at e. y.kept at (x.kept at e);
        past = λ at h. y.past at h ∙ x.past at h;
      }

  pub filled_rows : {row row' row'' column column' : ℕ} {output output' output'' : List ℕ}
      → Filled target place row row' column column' output output' → Filled target place row' row'' column column' output' output''
      → Filled target place row row'' column column' output output''
  filled_rows {row' = row'} x y =
      record {
        same = y.same ∙ x.same;
        filled = λ r c a b d e. elim (dec_lt r row') [ yes h ↦ y.kept _ (x.filled r c a h d e) | no h ↦ y.filled r c (omega arith) b d e ];
        kept = λ at e. y.kept at (x.kept at e);
        past = λ at h. y.past at h ∙ x.past at h;
      }

  -- all columns, all rows
  pub columns_end : {row row' column column' column'' : ℕ} {output output' : List ℕ} → Filled target place row row' column column' output output' → column' ≤ column'' → column'' ≤ column'
      → Filled target place row row' column column'' output output'
  columns_end {row} {row'} {column} {column'} {column''} {output} {output'} x h k =
      let e : column' ≡ column'' = omega arith in subst (λ (c : ℕ). Filled target place row row' column c output output') e x

  pub rows_end : {row row' row'' column column' : ℕ} {output output' : List ℕ} → Filled target place row row' column column' output output' → row' ≤ row'' → row'' ≤ row'
      → Filled target place row row'' column column' output output'
  rows_end {row} {row'} {row''} {column} {column'} {output} {output'} x h k =
      let e : row' ≡ row'' = omega arith in subst (λ (r : ℕ). Filled target place row r column column' output output') e x

  -- a cell written
  filled_cell : (row column : ℕ) (output : List ℕ) (value : ℕ) → value ≡ get_or target (place row column) 0 → place row column < length target → length target ≤ length output
      → Filled target place row (row + 1) column (column + 1) output (set output (place row column) value)
  filled_cell row column output value e inside room =
      record {
        same = length-set output (place row column) value;
        filled = λ r c a b d f.
            let p : r ≡ row = omega arith in
            let q : c ≡ column = omega arith in
            rw (p, q) here;
        kept = λ at k. elim (ℕ_discrete at (place row column)) [ yes p ↦ rw p here | no p ↦ get_or-set_other output _ at value 0 p ∙ k ];
        past = λ at k. get_or-set_other output _ at value 0 (λ p. omega arith);
      }
    where
      here : get_or (set output (place row column) value) (place row column) 0 ≡ get_or target (place row column) 0
      here = get_or-set_same output (place row column) value 0 (omega arith) ∙ e

  -- a cell more, down a column
  pub filled_down : {row row' column : ℕ} {output output' : List ℕ} (value : ℕ) → value ≡ get_or target (place row' column) 0 → place row' column < length target → length target ≤ length output
      → Filled target place row row' column (column + 1) output output'
      → Filled target place row (row' + 1) column (column + 1) output (set output' (place row' column) value)
  filled_down {row' = row'} {column} {output} {output'} value e inside room x =
      filled_rows x (filled_cell row' column output' value e inside (omega (arith, x.same)))

  -- all rows and columns: each place is that of a row and column
  pub filled_all : (rows columns : ℕ) (output output' : List ℕ) → length target ≤ length output
      → ((at : ℕ) → at < length target → (row : ℕ) × (column : ℕ) × (row < rows) × (column < columns) × (at ≡ place row column))
      → Filled target place 0 rows 0 columns output output' → output' ≡ splice output 0 target
  filled_all rows columns output output' room where_is x = ext_get_or 0 output' (splice output 0 target) (x.same ∙ sym (length_splice output target 0 fits)) each
    where
      fits : 0 + length target ≤ length output
      fits = omega arith

      within : (at : ℕ) → at < length target → get_or output' at 0 ≡ get_or target at 0
      within at h = let w = where_is at h in rw w.4 (x.filled w.0 w.1 (omega arith) w.2 (omega arith) w.3)

      each : (at : ℕ) → at < length output' → get_or output' at 0 ≡ get_or (splice output 0 target) at 0
      each at h = elim (dec_lt at (length target)) [
        | yes k ↦ within at k ∙ sym (get_d_splice_in output target 0 fits at 0 k) ∙ ap (λ (i : ℕ). get_or (splice output 0 target) i 0) (zero-add at)
        | no k ↦ x.past at (omega arith) ∙ sym (get_d_splice_after output target 0 fits at 0 (omega arith))
      ]

-- ---- the cell above

above_suc : (width column row : ℕ) (cells : List ℕ) → cell_above width column cells (row + 1) ≡ get_or cells (row * width + column) 0
unfolding cell_above
above_suc width column row cells = rw add-one

-- it is a cell
above_below : (width column row : ℕ) (cells : List ℕ) → Cells cells → cell_above width column cells row < 2 ^ 32
unfolding cell_above
above_below width column zero cells f = omega arith
above_below width column (suc row) cells f = f (row * width + column)

module _ (width column row : ℕ) (cells : List ℕ) where
  pub above_none : row ≡ 0 → 0 ≡ cell_above width column cells row
  unfolding cell_above
  above_none e = rw e

  -- the place of a cell that is not in the first row
  module _ (n : row ≡ 0 → ⊥) where
    at_least : width ≤ row * width
    at_least = let h : 0 < row = omega arith in omega (arith, row_in 0 row width h, zero-mul width)

    back_up : row * width + column - width ≡ (row - 1) * width + column
    back_up =
        let e : row - 1 + 1 ≡ row = omega arith in
        let m : row * width ≡ (row - 1) * width + width = ap (λ (r : ℕ). r * width) (sym e) ∙ rw (add-one, suc-mul) in
        omega arith

    pub above_some : get_or cells (row * width + column - width) 0 ≡ cell_above width column cells row
    above_some =
        let e : row - 1 + 1 ≡ row = omega arith in
        ap (λ (at : ℕ). get_or cells at 0) back_up ∙ sym (above_suc width column (row - 1) cells) ∙ ap (cell_above width column cells) e

    pub above_inside : column < width → row * width ≤ length cells → (width ≤ row * width) × (row * width + column - width < length cells)
    above_inside h k = (at_least, omega (arith, at_least))

-- rows that are there already
pub above_summed : (width rows column row : ℕ) (cells output : List ℕ) → column < width → Begun from_columns by_rows width rows row cells output
    → cell_above width column output row ≡ cell_above width column (from_columns width cells) row
unfolding cell_above
above_summed width rows column zero cells output h s = refl
above_summed width rows column (suc row) cells output h s = s row column (omega arith) h

-- ---- where cells are

module _ {width rows start end : ℕ} {cells output : List ℕ} (s : Shaped width rows cells output) (w : Within start end rows) {row column : ℕ} (h : row < end) (k : column < width) where
  pub to_inside : column * rows + row < length cells
  to_inside = omega (arith, row_in column width rows k, mul_comm width rows, s.whole, w.inside)

  pub from_inside : row * width + column < length cells
  from_inside = let n : row < rows = omega (arith, w.inside) in omega (arith, row_in row rows width n, s.whole)

-- the columns before a column, and the rows above a row
pub columns_inside : {width rows : ℕ} {cells output : List ℕ} → Shaped width rows cells output → (column : ℕ) → column < width → column * rows ≤ length cells
columns_inside {width} {rows} s column h = omega (arith, row_in column width rows h, mul_comm width rows, s.whole)

pub rows_inside : {width rows : ℕ} {cells output : List ℕ} → Shaped width rows cells output → (row : ℕ) → row ≤ rows → row * width ≤ length cells
rows_inside {width} s row h = omega (arith, mul-le-mul_right width h, s.whole)

pub rows_fit : {width rows : ℕ} {cells output : List ℕ} → Shaped width rows cells output → (row : ℕ) → row ≤ rows → row * width ≤ length output
rows_fit s row h = omega (arith, rows_inside s row h, s.room)

-- ---- from one call to the next

pub still_shaped : {target : List ℕ} {place : ℕ → ℕ → ℕ} {row row' column column' width rows : ℕ} {cells output output' : List ℕ}
    → Filled target place row row' column column' output output' → Shaped width rows cells output → Shaped width rows cells output'
still_shaped x s = record { some = s.some; whole = s.whole; room = omega (arith, s.room, x.same) }

-- ---- down a column

-- At the loop's test: the cell above, taken from the rows of the source; and the rows before this one filled.
pub record ColumnScan (source target : List ℕ) (place : ℕ → ℕ → ℕ) (width start end column : ℕ) (output output' : List ℕ) (above row : ℕ) : Type 0 where
  pub after : start ≤ row
  pub before : row ≤ end
  pub cell : above ≡ cell_above width column source row
  pub filled : Filled target place start row column (column + 1) output output'

pub column_scan_begin : {source target : List ℕ} {place : ℕ → ℕ → ℕ} {width start end column : ℕ} {output : List ℕ} {above : ℕ} → start ≤ end → above ≡ cell_above width column source start
    → ColumnScan source target place width start end column output output above start
column_scan_begin h e = record { after = omega arith; before = h; cell = e; filled = filled_none }

pub column_scan_end : {source target : List ℕ} {place : ℕ → ℕ → ℕ} {width start end column : ℕ} {output output' : List ℕ} {above row : ℕ}
    → ColumnScan source target place width start end column output output' above row → end ≤ row → Filled target place start end column (column + 1) output output'
column_scan_end x h = rows_end x.filled x.before h

-- to column order
abbrev pub Differencing : ℕ → ℕ → ℕ → ℕ → ℕ → List ℕ → List ℕ → List ℕ → ℕ → ℕ → Type 0
Differencing width rows start end column cells output output' above row =
    ColumnScan cells (to_columns width cells) (by_columns width rows) width start end column output output' above row

minus_wraps : (r cell above : ℕ) → r < 2 ^ 32 → above < 2 ^ 32 → (r + above) % 2 ^ 32 ≡ cell → r ≡ minus cell above
unfolding minus
minus_wraps r cell above h k e = omega arith

-- back to row order
abbrev pub Summing : ℕ → ℕ → ℕ → ℕ → ℕ → List ℕ → List ℕ → List ℕ → ℕ → ℕ → Type 0
Summing width rows start end column cells output output' above row =
    ColumnScan (from_columns width cells) (from_columns width cells) (by_rows width rows) width start end column output output' above row

module _ {width rows start end column : ℕ} {cells output : List ℕ} (s : Shaped width rows cells output) (w : Within start end rows) (k : column < width) (f : Cells cells)
    {output' : List ℕ} {above row r : ℕ} (h : row < end) where
  -- one row more
  pub difference_more : Differencing width rows start end column cells output output' above row → r < 2 ^ 32 → (r + above) % 2 ^ 32 ≡ get_or cells (row * width + column) 0
      → Differencing width rows start end column cells output (set output' (column * rows + row) r) (get_or cells (row * width + column) 0) (row + 1)
  difference_more x small e =
      let n : row < rows = omega (arith, w.inside) in
      let a : above < 2 ^ 32 = rw x.cell (above_below width column row cells f) in
      let l = length_to width rows s.some cells s.whole in
      record {
        after = omega (arith, x.after);
        before = omega arith;
        cell = sym (above_suc width column row cells);
        filled =
            filled_down r (minus_wraps r _ above small a e ∙ ap (minus (get_or cells (row * width + column) 0)) x.cell ∙ sym (to_place width rows s.some cells s.whole f row column n k))
            (omega (arith, to_inside s w h k)) (omega (arith, s.room)) x.filled;
      }

  pub sum_more : Summing width rows start end column cells output output' above row → r ≡ (get_or cells (column * rows + row) 0 + above) % 2 ^ 32
      → Summing width rows start end column cells output (set output' (row * width + column) r) r (row + 1)
  sum_more x e =
      let n : row < rows = omega (arith, w.inside) in
      let l = length_from width rows s.some cells s.whole in
      let v : r ≡ get_or (from_columns width cells) (row * width + column) 0 =
      e ∙ ap (λ (a : ℕ). (get_or cells (column * rows + row) 0 + a) % 2 ^ 32) x.cell ∙ sym (from_place width rows s.some cells s.whole f row column n k) in
      record {
        after = omega (arith, x.after);
        before = omega arith;
        cell = v ∙ sym (above_suc width column row (from_columns width cells));
        filled = filled_down r v (omega (arith, from_inside s w h k)) (omega (arith, s.room)) x.filled;
      }

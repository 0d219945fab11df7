-- Both orders place by place: each cell, by the one above it. Assumes nothing.
use Rattle.vault.specs.Laws.Prelude.{ℕ, zero, suc, refl, sym, ap, ap₂, ◌∙◌, mul_comm, arith, length, get_or, length-map, get_d_map_below, length_rows_of, get_d_rows_of, get_d_row_at, rows_of_widths}
use Rattle.std.specs.Prelude.{List, [], ◌∷◌, map, ◌+◌, ◌*◌, ◌<◌, ◌≡◌}
use mathlib.Core.List.{zip_with}
use Rattle.lists.specs.Lists.{rows_of, flatten, iota}
use Rattle.vault.specs.Columns.{minus, differences, sums, transposed, to_columns, from_columns}
use Rattle.vault.specs.inner.Filling.{cell_above}
use Rattle.vault.specs.Laws.Differences.{Cells, plus, above, differences_at, sums_at}
use Rattle.vault.specs.Laws.Transposed.{column, length_column, length_transposed, column_at, transposed_at, width_at, flat_at, rows_of_cells, column_cells}
use Rattle.vault.specs.Laws.Inverse.{to_columns_lem, from_columns_lem, columns_widths, rows_widths, columns_in, rows_back}

-- the cell above in a column is one row earlier in the rows
above_alike : (width j : ℕ) (cells l : List ℕ) (n : ℕ) → ((i : ℕ) → i < n → get_or l i 0 ≡ get_or cells (i * width + j) 0)
    → (i : ℕ) → i < n → above l i ≡ cell_above width j cells i
unfolding above cell_above
above_alike width j cells l n e zero h = refl
above_alike width j cells l n e (suc i) h = e i (omega arith)

module _ (width n : ℕ) (some : 0 < width) (cells : List ℕ) (e : length cells ≡ n * width) (f : Cells cells) where
  cell_of : (i j : ℕ) → i < n → j < width → get_or (column j (rows_of width n cells)) i 0 ≡ get_or cells (i * width + j) 0
  cell_of i j h k =
      column_at j (rows_of width n cells) i (rw (length_rows_of width n cells) h)
      ∙ ap (λ (r : List ℕ). get_or r j 0) (get_d_rows_of width n cells i h)
      ∙ get_d_row_at width i cells j 0 k

  pub to_place : (i j : ℕ) → i < n → j < width → get_or (to_columns width cells) (j * n + i) 0 ≡ minus (get_or cells (i * width + j) 0) (cell_above width j cells i)
  to_place i j h k =
      let rows = rows_of width n cells in
      let m : j < length (transposed width rows) = rw (length_transposed width rows) k in
      let l : j < length (columns_in width n some cells e) = rw (length-map (transposed width rows) differences) m in
      ap (λ (x : List ℕ). get_or x (j * n + i) 0) (to_columns_lem width n some cells e)
      ∙ flat_at n (columns_in width n some cells e) (columns_widths width n some cells e) j i l h
      ∙ ap (λ (x : List ℕ). get_or x i 0) (get_d_map_below differences (transposed width rows) j [] [] m ∙ ap differences (transposed_at width rows j k))
      ∙ differences_at (column j rows) (column_cells j rows (rows_of_cells width n cells f)) i (rw (length_column j rows, length_rows_of width n cells) h)
      ∙ ap₂ minus (cell_of i j h k) (above_alike width j cells (column j rows) n (λ r g. cell_of r j g k) i h)

  -- column j after the inverse
  abbrev back : ℕ → List ℕ
  back j = sums (get_or (rows_of n width cells) j [])

  back_of : (i j : ℕ) → i < n → j < width → get_or (from_columns width cells) (i * width + j) 0 ≡ get_or (back j) i 0
  back_of i j h k =
      let columns = map sums (rows_of n width cells) in
      let m : j < length (rows_of n width cells) = rw (length_rows_of n width cells) k in
      let l : j < length columns = rw (length-map (rows_of n width cells) sums) m in
      ap (λ (x : List ℕ). get_or x (i * width + j) 0) (from_columns_lem width n some cells e)
      ∙ flat_at width (rows_back width n some cells e) (rows_widths width n some cells e) i j (rw (length_transposed n columns) h) k
      ∙ ap (λ (x : List ℕ). get_or x j 0) (transposed_at n columns i h)
      ∙ column_at i columns j l
      ∙ ap (λ (x : List ℕ). get_or x i 0) (get_d_map_below sums (rows_of n width cells) j [] [] m)

  pub from_place : (i j : ℕ) → i < n → j < width
      → get_or (from_columns width cells) (i * width + j) 0 ≡ plus (get_or cells (j * n + i) 0) (cell_above width j (from_columns width cells) i)
  from_place i j h k =
      let part = get_or (rows_of n width cells) j [] in
      let row = get_d_rows_of n width cells j k in
      let long : i < length part = rw (width_at n (rows_of n width cells) (rows_of_widths n width cells (omega (arith, mul_comm n width))) j (rw (length_rows_of n width cells) k)) h in
      back_of i j h k
      ∙ sums_at part (rows_of_cells n width cells f j) i long
      ∙ ap₂ plus (ap (λ (r : List ℕ). get_or r i 0) row ∙ get_d_row_at n j cells i 0 h) (above_alike width j (from_columns width cells) (back j) n (λ r g. sym (back_of r j g k)) i h)

-- the example of docs/FORMAT.md, three rows of two
pub worked : to_columns 2 (1 ∷ 10 ∷ 6 ∷ 10 ∷ 5 ∷ 12 ∷ []) ≡ 1 ∷ 5 ∷ 4294967295 ∷ 10 ∷ 0 ∷ 2 ∷ []
unfolding to_columns transposed differences zip_with minus rows_of flatten iota
worked = refl

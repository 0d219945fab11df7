-- "Applying either after the other restores the cells for every list and every width", once for all widths. Assumes nothing.
use Rattle.std.specs.Prelude.{◌*◌, ◌/◌, ◌%◌, ◌<◌, ◌≡◌}
use Rattle.vault.specs.Laws.Prelude.{ℕ, sym, ap, ap₂, ◌∙◌, true, List, [], map, append-nil, mul_comm, mul-div_cancel, div-add-mod', arith, length, length-map, take_all, rows_of, flatten, widths, length_rows_of, length_flatten, rows_of_widths, rows_of_flatten, flatten_rows_of}
use Rattle.vault.specs.Columns.{differences, sums, transposed, to_columns, from_columns, Restores}
use Rattle.vault.specs.Laws.Differences.{Cells, sums_differences, differences_sums, length_differences, length_sums}
use Rattle.vault.specs.Laws.Transposed.{length_transposed, transposed_widths, map_widths, transposed_twice, rows_of_cells, transposed_cells, map_undone}

-- n rows of this width
module _ (width n : ℕ) (some : 0 < width) where
  -- the number of rows, by the length
  pub rows_of_lem : (cells : List ℕ) → length cells ≡ n * width → length cells / width ≡ n
  rows_of_lem cells e = rw e (mul-div_cancel n some)

  -- lists one after another, read back
  read_back : (w m : ℕ) (ls : List (List ℕ)) → length ls ≡ m → widths w ls ≡ true → rows_of w m (flatten ls) ≡ ls
  read_back w m ls e q = ap₂ (λ (k : ℕ) (l : List ℕ). rows_of w k l) (sym e) (sym (append-nil (flatten ls))) ∙ rows_of_flatten w ls q []

  module _ (cells : List ℕ) (e : length cells ≡ n * width) where
    -- the columns, as differences; and the rows, as sums
    abbrev pub columns_in : List (List ℕ)
    columns_in = map differences (transposed width (rows_of width n cells))

    abbrev pub rows_back : List (List ℕ)
    rows_back = transposed n (map sums (rows_of n width cells))

    pub to_columns_lem : to_columns width cells ≡ flatten columns_in
    unfolding to_columns
    to_columns_lem = ap (λ (k : ℕ). flatten (map differences (transposed width (rows_of width k cells)))) (rows_of_lem cells e)

    pub from_columns_lem : from_columns width cells ≡ flatten rows_back
    unfolding from_columns
    from_columns_lem = ap (λ (k : ℕ). flatten (transposed k (map sums (rows_of k width cells)))) (rows_of_lem cells e)

    columns_count : length columns_in ≡ width
    columns_count = length-map (transposed width (rows_of width n cells)) differences ∙ length_transposed width (rows_of width n cells)

    pub columns_widths : widths n columns_in ≡ true
    columns_widths =
        map_widths differences length_differences n (transposed width (rows_of width n cells))
        (ap (λ (k : ℕ). widths k (transposed width (rows_of width n cells))) (sym (length_rows_of width n cells)) ∙ transposed_widths width (rows_of width n cells))

    sums_count : length (map sums (rows_of n width cells)) ≡ width
    sums_count = length-map (rows_of n width cells) sums ∙ length_rows_of n width cells

    pub rows_widths : widths width rows_back ≡ true
    rows_widths = ap (λ (k : ℕ). widths k rows_back) (sym sums_count) ∙ transposed_widths n (map sums (rows_of n width cells))

    pub length_to : length (to_columns width cells) ≡ length cells
    length_to =
        ap length to_columns_lem ∙ length_flatten n columns_in columns_widths ∙ ap (λ (k : ℕ). k * n) columns_count ∙ mul_comm width n ∙ sym e

    pub length_from : length (from_columns width cells) ≡ length cells
    length_from =
        ap length from_columns_lem ∙ length_flatten width rows_back rows_widths ∙ ap (λ (k : ℕ). k * width) (length_transposed n (map sums (rows_of n width cells))) ∙ sym e

  module _ (cells : List ℕ) (e : length cells ≡ n * width) (f : Cells cells) where
    from_to : from_columns width (to_columns width cells) ≡ cells
    from_to =
        let k : length (to_columns width cells) ≡ n * width = length_to cells e ∙ e in
        from_columns_lem (to_columns width cells) k
        ∙ ap (λ (ls : List (List ℕ)). flatten (transposed n (map sums ls))) (ap (rows_of n width) (to_columns_lem cells e) ∙ read_back n width (columns_in cells e) (columns_count cells e) (columns_widths cells e))
        ∙ ap (λ (ls : List (List ℕ)). flatten (transposed n ls)) (map_undone sums differences sums_differences (transposed width (rows_of width n cells)) (transposed_cells width (rows_of width n cells) (rows_of_cells width n cells f)))
        ∙ ap (λ (m : ℕ). flatten (transposed m (transposed width (rows_of width n cells)))) (sym (length_rows_of width n cells))
        ∙ ap flatten (transposed_twice width (rows_of width n cells) (rows_of_widths width n cells (omega arith)))
        ∙ flatten_rows_of width n cells
        ∙ take_all (n * width) cells (omega arith)

    to_from : to_columns width (from_columns width cells) ≡ cells
    to_from =
        let k : length (from_columns width cells) ≡ n * width = length_from cells e ∙ e in
        let h : length cells ≡ width * n = e ∙ mul_comm n width in
        let q : widths n (map sums (rows_of n width cells)) ≡ true = map_widths sums length_sums n (rows_of n width cells) (rows_of_widths n width cells (omega arith)) in
        to_columns_lem (from_columns width cells) k
        ∙ ap (λ (ls : List (List ℕ)). flatten (map differences (transposed width ls)))
        (ap (rows_of width n) (from_columns_lem cells e) ∙ read_back width n (rows_back cells e) (length_transposed n (map sums (rows_of n width cells))) (rows_widths cells e))
        ∙ ap (λ (m : ℕ). flatten (map differences (transposed m (rows_back cells e)))) (sym (sums_count cells e))
        ∙ ap (λ (ls : List (List ℕ)). flatten (map differences ls)) (transposed_twice n (map sums (rows_of n width cells)) q)
        ∙ ap flatten (map_undone differences sums differences_sums (rows_of n width cells) (rows_of_cells n width cells f))
        ∙ flatten_rows_of n width cells
        ∙ take_all (width * n) cells (omega arith)

-- a length that is a multiple of the width is that of whole rows
pub multiple : (width length : ℕ) → length % width ≡ 0 → length ≡ length / width * width
multiple width length e = omega (arith, div-add-mod' length width)

module _ (width : ℕ) (cells : List ℕ) (some : 0 < width) (whole : length cells % width ≡ 0) where
  pub to_columns_length : length (to_columns width cells) ≡ length cells
  to_columns_length = length_to width (length cells / width) some cells (multiple width (length cells) whole)

  pub from_columns_length : length (from_columns width cells) ≡ length cells
  from_columns_length = length_from width (length cells / width) some cells (multiple width (length cells) whole)

  -- `from_columns` after `to_columns`, and `to_columns` after `from_columns`
  pub from_columns_to_columns : Cells cells → from_columns width (to_columns width cells) ≡ cells
  from_columns_to_columns f = from_to width (length cells / width) some cells (multiple width (length cells) whole) f

  pub to_columns_from_columns : Cells cells → to_columns width (from_columns width cells) ≡ cells
  to_columns_from_columns f = to_from width (length cells / width) some cells (multiple width (length cells) whole) f

pub restores : Restores
restores width cells some whole f = (from_columns_to_columns width cells some whole f, to_columns_from_columns width cells some whole f)

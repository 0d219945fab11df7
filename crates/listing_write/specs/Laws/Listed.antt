-- The listing of a table is within all bounds of document 02, change 11, if its numbers are within theirs and every cell of a live
-- row is a u32. Assumes nothing.
use Rattle.std.specs.Prelude.{◌+◌, ◌-◌, ◌≤◌, ◌<◌, ◌≡◌, ◌||◌, ◌∷◌}
use Rattle.listing_write.specs.Laws.Prelude.{ℕ, suc, refl, inl, inr, Bool, true, false, cond, not, false≢true, List, [], map, some, arith, leb, eqb, length, get_or, eqb-true, le-leb, lt-ltb, all_head, all_tail, all_cons, or_second, split, Opening, Bounds, RowsFit, fit_none, fit_more, row_of, listing_of_lem}
use Rattle.lists.specs.Lists.{all}
use Rattle.cells.specs.Cells.{is_dead}
use Rattle.plain_table.specs.Staged.{openable}
use Rattle.plain_table.specs.Plain.{Row, live_from}
use Rattle.listing_spec.specs.Listings.{head_width, prefix_width, listing_text, are_numbers, is_head, ParsesAs, parses}
use Rattle.listing_write.specs.Writing.{table_listing}
use Rattle.listing_write.specs.inner.Lines.{head_numbers, row_fields, listed_lines}
use Rattle.listing_write.specs.Laws.Lines.{listing_lines}

-- every cell of a row is a u32, if the row is live
abbrev pub live_fits : Row → Bool
live_fits row = not row.live || are_numbers row.cells

-- ---- the rows

-- the numbers of a row's line
abbrev line_of : Bool → ℕ → List ℕ → List ℕ
line_of numbered n cells = cond numbered (n ∷ cells) cells

-- what a listing requires of a row
abbrev fits : ℕ → Row → Type 0
fits columns row = (eqb (length row.cells) columns ≡ true) × (not (is_dead (get_or row.cells 0 0)) ≡ true) × (are_numbers row.cells ≡ true)

module _ (columns count : ℕ) (few : count ≤ 65536) where
  row_fits_lem : (numbered : Bool) (n least left : ℕ) (row : Row) (rest : List (List ℕ)) → (numbered ≡ true → (least ≤ n) × (n < count)) → 0 < left → fits columns row
      → RowsFit numbered columns count (suc (get_or (line_of numbered n row.cells) 0 0)) (left - 1) rest
      → RowsFit numbered columns count least left (line_of numbered n row.cells ∷ rest)
  unfolding prefix_width is_dead
  row_fits_lem true n least left row rest order room good r =
      fit_more true columns count least left (n ∷ row.cells) rest room
      (unfold are_numbers in all_cons (λ m. leb m 4294967295) n row.cells (le-leb n 4294967295 (omega (arith, (order refl).1))) good.2)
      (row_of true columns count (n ∷ row.cells) (omega (arith, eqb-true (length row.cells) columns good.0)) good.1)
      (λ t. (le-leb least n (order refl).0, lt-ltb n count (order refl).1))
      r
  row_fits_lem false n least left row rest order room good r =
      fit_more false columns count least left row.cells rest room good.2
      (row_of false columns count row.cells (omega (arith, eqb-true (length row.cells) columns good.0)) good.1)
      (λ t. absurd (false≢true t))
      r

  next_low : (numbered : Bool) (n left : ℕ) (cells : List ℕ) → (numbered ≡ true → n + suc left ≤ count)
      → numbered ≡ true → (suc (get_or (line_of numbered n cells) 0 0) ≤ suc n) × (suc n + left ≤ count)
  next_low true n left cells below t = (omega arith, omega (arith, below refl))
  next_low false n left cells below t = absurd (false≢true t)

  rows_fit : (numbered : Bool) (n least left : ℕ) (rows : List Row) → (numbered ≡ true → (least ≤ n) × (n + length rows ≤ count)) → length rows ≤ left
      → all (λ row. eqb (length row.cells) columns) rows ≡ true
      → all (λ row. not row.live || not (is_dead (get_or row.cells 0 0))) rows ≡ true
      → all live_fits rows ≡ true
      → RowsFit numbered columns count least left (map (row_fields numbered) (live_from n rows))
  unfolding live_from row_fields
  rows_fit numbered n least left [] order room wide live fit = fit_none numbered columns count least left
  rows_fit numbered n least left (row ∷ rows) order room wide live fit =
      let wide' = all_tail (λ (r : Row). eqb (length r.cells) columns) row rows wide in
      let live' = all_tail (λ (r : Row). not r.live || not (is_dead (get_or r.cells 0 0))) row rows live in
      let fit' = all_tail live_fits row rows fit in
      let here = all_head (λ (r : Row). not r.live || not (is_dead (get_or r.cells 0 0))) row rows live in
      elim (split row.live) [
        | inl e ↦
            rw e
            (row_fits_lem numbered n least left row (map (row_fields numbered) (live_from (suc n) rows))
            (λ t. ((order t).0, omega (arith, (order t).1))) (omega arith)
            (all_head (λ (r : Row). eqb (length r.cells) columns) row rows wide, or_second (not row.live) (not (is_dead (get_or row.cells 0 0))) here (rw e), or_second (not row.live) (are_numbers row.cells) (all_head live_fits row rows fit) (rw e))
            (rows_fit numbered (suc n) (suc (get_or (line_of numbered n row.cells) 0 0)) (left - 1) rows (next_low numbered n (length rows) row.cells (λ t. omega (arith, (order t).1))) (omega arith) wide' live' fit'))
        | inr e ↦
            rw e
            (rows_fit numbered (suc n) least left rows (λ t. (omega (arith, (order t).0), omega (arith, (order t).1))) (omega arith) wide' live' fit')
      ]

-- ---- the head, and the whole listing

module _ (o : Opening) (generation : ℕ) (rows : List Row) (b : Bounds o) (fits : generation ≤ 4294967295) (few : length rows ≤ o.capacity) where
  most : length rows ≤ 65536
  most = omega (arith, few, b.capacity_few)

  within : openable (record { columns = o.columns; keys = o.keys; sort = o.sort; rule = o.rule; capacity = 1 }) ≡ true
  unfolding openable
  within =
      rw (le-leb 1 o.columns b.columns_some, le-leb o.columns 8 b.columns_few, le-leb 1 o.keys b.keys_some, le-leb o.keys o.columns b.keys_few, lt-ltb o.sort o.columns b.sort_column, le-leb o.rule 3 b.rule_known)

  numbers_fit : (numbered : Bool) → are_numbers (head_numbers numbered o generation (length rows)) ≡ true
  unfolding are_numbers all head_numbers
  numbers_fit numbered =
      let c = le-leb o.columns 4294967295 (omega (arith, b.columns_few)) in
      let k = le-leb o.keys 4294967295 (omega (arith, b.columns_few, b.keys_few)) in
      let s = le-leb o.sort 4294967295 (omega (arith, b.columns_few, b.sort_column)) in
      let r = le-leb o.rule 4294967295 (omega (arith, b.rule_known)) in
      let g = le-leb generation 4294967295 fits in
      let n = le-leb (length rows) 4294967295 (omega (arith, most)) in
      elim numbered as (λ m. are_numbers (head_numbers m o generation (length rows)) ≡ true) [ true ↦ rw (c, k, s, r, g, n) | false ↦ rw (c, k, s, r, g) ]

  head_good : (numbered : Bool) → is_head numbered (head_numbers numbered o generation (length rows)) ≡ true
  unfolding is_head head_width head_numbers
  head_good true = rw (within, le-leb (length rows) 65536 most)
  head_good false = rw within

  module _ (wide : all (λ row. eqb (length row.cells) o.columns) rows ≡ true) (live : all (λ row. not row.live || not (is_dead (get_or row.cells 0 0))) rows ≡ true) (cells : all live_fits rows ≡ true) where
    rows_bounded : (numbered : Bool) → RowsFit numbered (get_or (head_numbers numbered o generation (length rows)) 0 0) (get_or (head_numbers numbered o generation (length rows)) 5 0) 0 65536 (map (row_fields numbered) (live_from 0 rows))
    unfolding head_numbers
    rows_bounded true = rows_fit o.columns (length rows) most true 0 0 65536 rows (λ t. (omega arith, omega arith)) most wide live cells
    rows_bounded false = rows_fit o.columns 0 (omega arith) false 0 0 65536 rows (λ t. absurd (false≢true t)) most wide live cells

    pub table_listed : (numbered : Bool) → ParsesAs numbered (listing_text numbered (table_listing numbered o generation rows)) (some (table_listing numbered o generation rows))
    table_listed numbered =
        rw (listing_lines numbered o generation rows)
        (parses (listed_lines numbered o generation rows)
        (listing_of_lem numbered (listed_lines numbered o generation rows) record { head_fits = numbers_fit numbered; head_good = head_good numbered; rows_fit = rows_bounded numbered })
        refl)

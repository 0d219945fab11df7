-- Conversion from one form to the other and back loses nothing. Assumes nothing.
use Rattle.std.specs.Prelude.{◌+◌, ◌-◌, ◌≤◌, ◌<◌, ◌≡◌, ◌∷◌, ◌++◌}
use Rattle.listing_spec.specs.Laws.Prelude.{ℕ, suc, refl, sym, ap, ap₂, ◌∙◌, inl, inr, Bool, true, false, false≢true, List, [], map, zero-add, arith, ltb, length, take, drop, get_or, length-append, length-map, take-suc, take_all, take_at, ltb-true, all_head, all_tail, split, all_get_d, all_of, bool_ext, within_of, within_high, length_iota, get_d_iota, rising_iota, elem_at, elem_of, elem_iota, rising_ext, rising_gap, field, text_line, fields_more, length_line}
use Rattle.lists.specs.Lists.{all, flatten, iota, rising, elem}
use Rattle.listing_spec.specs.Listings.{Listing, head_letter, head_width, listing_text, prefix_width, is_row, row_numbers, is_listing, numbered_from, to_numbered, from_numbered, lacks_row}
use Rattle.listing_spec.specs.Laws.Texts.{rising_from_lem, Bounded, listing_parts, head_wide, row_parts}

-- ---- which numbers have a row

module _ (numbers : List ℕ) (count : ℕ) (rises : rising numbers ≡ true) (below : all (λ n. ltb n count) numbers ≡ true) where
  number_below : (i : ℕ) → i < length numbers → get_or numbers i 0 < count
  number_below i h = ltb-true (get_or numbers i 0) count (all_get_d (λ n. ltb n count) numbers below i h 0)

  -- as many row numbers as the count: every number below the count has a row
  pub all_there : length numbers ≡ count → all (λ n. elem n numbers) (iota 0 count) ≡ true
  all_there e = all_of (λ n. elem n numbers) 0 (iota 0 count) there
    where
      at : (i : ℕ) → i < count → get_or numbers i 0 ≡ i
      at i h =
          let low = rising_gap numbers rises 0 i (omega (arith, e)) in
          let k = count - 1 - i in
          let to_last : i + k < length numbers = omega (arith, e) in
          let high = rising_gap numbers rises i k to_last in
          let last = number_below (i + k) to_last in
          let first : 0 + i ≡ i = omega arith in
          let low' : get_or numbers 0 0 + i ≤ get_or numbers i 0 = rw first at low in
          omega (arith, low', high, last)

      there : (i : ℕ) → i < length (iota 0 count) → elem (get_or (iota 0 count) i 0) numbers ≡ true
      there i h =
          let inside : i < count = omega (arith, length_iota 0 count) in
          let here : get_or (iota 0 count) i 0 ≡ i = get_d_iota 0 count i 0 inside ∙ zero-add i in
          rw (here, ← at i inside) (elem_of numbers i (omega (arith, e)))

  -- if every number below the count has a row, the row numbers are all the numbers below the count
  pub all_counted : all (λ n. elem n numbers) (iota 0 count) ≡ true → numbers ≡ iota 0 count
  all_counted all_hold = rising_ext numbers (iota 0 count) rises (rising_iota 0 count) (λ x. bool_ext (elem x numbers) (elem x (iota 0 count)) (to x) (from x))
    where
      to : (x : ℕ) → elem x numbers ≡ true → elem x (iota 0 count) ≡ true
      to x h =
          let w = elem_at x numbers h in
          let less : x < 0 + count = omega (arith, number_below w.0 w.1, w.2) in
          elem_iota x 0 count ∙ within_of 0 (0 + count) x (omega arith) less

      from : (x : ℕ) → elem x (iota 0 count) ≡ true → elem x numbers ≡ true
      from x h =
          let less : x < 0 + count = within_high 0 (0 + count) x (sym (elem_iota x 0 count) ∙ h) in
          let inside : x < count = omega (arith, less) in
          let there = all_get_d (λ n. elem n numbers) (iota 0 count) all_hold x (omega (arith, length_iota 0 count)) 0 in
          let here : get_or (iota 0 count) x 0 ≡ x = get_d_iota 0 count x 0 inside ∙ zero-add x in
          rw here at there

-- ---- rows with and without their numbers

pub length_numbered_from : (n : ℕ) (rows : List (List ℕ)) → length (numbered_from n rows) ≡ length rows
unfolding numbered_from
length_numbered_from n [] = refl
length_numbered_from n (row ∷ rows) = ap suc (length_numbered_from (suc n) rows)

unnumbered : (n : ℕ) (rows : List (List ℕ)) → map (drop 1) (numbered_from n rows) ≡ rows
unfolding numbered_from
unnumbered n [] = refl
unnumbered n (row ∷ rows) = ap (λ (l : List (List ℕ)). row ∷ l) (unnumbered (suc n) rows)

numbers_counted : (n : ℕ) (rows : List (List ℕ)) → row_numbers (numbered_from n rows) ≡ iota n (length rows)
unfolding row_numbers numbered_from iota
numbers_counted n [] = refl
numbers_counted n (row ∷ rows) = ap (λ (l : List ℕ). n ∷ l) (numbers_counted (suc n) rows)

row_again : (ns : List ℕ) → 0 < length ns → get_or ns 0 0 ∷ drop 1 ns ≡ ns
row_again [] h = absurd (omega (arith, h))
row_again (n ∷ ns) h = refl

some_number : (columns : ℕ) (ns : List ℕ) → length ns ≡ prefix_width true + columns → 0 < length ns
unfolding prefix_width
some_number columns ns e = omega (arith, e)

numbered_again : (columns n : ℕ) (rows : List (List ℕ)) → all (is_row true columns) rows ≡ true → row_numbers rows ≡ iota n (length rows) → numbered_from n (map (drop 1) rows) ≡ rows
unfolding numbered_from row_numbers iota
numbered_again columns n [] wide e = refl
numbered_again columns n (ns ∷ rows) wide e =
    let first : get_or ns 0 0 ≡ n = ap (λ (l : List ℕ). get_or l 0 0) e in
    let rest : row_numbers rows ≡ iota (suc n) (length rows) = ap (λ (l : List ℕ). drop 1 l) e in
    let long = (row_parts true columns 0 ns (all_head (is_row true columns) ns rows wide)).0 in
    ap₂ (λ (x : List ℕ) (xs : List (List ℕ)). x ∷ xs) (ap (λ (m : ℕ). m ∷ drop 1 ns) (sym first) ∙ row_again ns (some_number columns ns long))
    (numbered_again columns (suc n) rows (all_tail (is_row true columns) ns rows wide) rest)

-- ---- listings

module _ (l : Listing) (e : is_listing true l ≡ true) where
  parts : Bounded true l
  parts = listing_parts true l e

  count : ℕ
  count = get_or l.head 5 0

  rises : rising (row_numbers l.rows) ≡ true
  rises = rising_from_lem (row_numbers l.rows) ∙ (parts.rows_fit.ordered refl).0

  below : all (λ n. ltb n count) (row_numbers l.rows) ≡ true
  unfolding count
  below = (parts.rows_fit.ordered refl).1

  length_numbers : length (row_numbers l.rows) ≡ length l.rows
  unfolding row_numbers
  length_numbers = length-map l.rows (λ ns. get_or ns 0 0)

  there : Bool
  there = all (λ n. elem n (row_numbers l.rows)) (iota 0 count)

  -- some number has no row exactly if there are fewer rows than the count
  pub lacks_none : length l.rows ≡ get_or l.head 5 0 → lacks_row l ≡ false
  unfolding lacks_row count there
  lacks_none full = rw (all_there (row_numbers l.rows) count rises below (length_numbers ∙ full))

  all_rows : lacks_row l ≡ false → row_numbers l.rows ≡ iota 0 (get_or l.head 5 0)
  unfolding lacks_row count there
  all_rows none =
      all_counted (row_numbers l.rows) count rises below
      (elim (split there) [ inl t ↦ t | inr f ↦ absurd (false≢true (sym none ∙ rw f)) ])

  pub lacks_no_row : lacks_row l ≡ false → length l.rows ≡ get_or l.head 5 0
  lacks_no_row none = sym length_numbers ∙ ap length (all_rows none) ∙ length_iota 0 (get_or l.head 5 0)

  -- to the old form and back to the new
  pub to_from : lacks_row l ≡ false → to_numbered (from_numbered l) ≡ l
  unfolding to_numbered from_numbered
  to_from none =
      let wide : length l.head ≡ 6 = head_wide true l.head parts.head_good ∙ (unfold head_width in refl) in
      let full = lacks_no_row none in
      let last : length (map (drop 1) l.rows) ≡ get_or l.head 5 0 = length-map l.rows (drop 1) ∙ full in
      let head : take 5 l.head ++ (length (map (drop 1) l.rows) ∷ []) ≡ l.head =
      rw last (sym (take-suc l.head 5 0 (omega (arith, wide)))) ∙ take_all 6 l.head (omega (arith, wide)) in
      let counted : row_numbers l.rows ≡ iota 0 (length l.rows) = all_rows none ∙ ap (iota 0) (sym full) in
      let rows : numbered_from 0 (map (drop 1) l.rows) ≡ l.rows = numbered_again (get_or l.head 0 0) 0 l.rows parts.rows_fit.wide counted in
      rw (head, rows)

-- to the new form and back
pub from_to : (l : Listing) → is_listing false l ≡ true → from_numbered (to_numbered l) ≡ l
unfolding to_numbered from_numbered
from_to l e =
    let wide : length l.head ≡ 5 = head_wide false l.head (listing_parts false l e).head_good ∙ (unfold head_width in refl) in
    rw (take_at l.head (length l.rows ∷ []) 5 wide, unnumbered 0 l.rows)

-- ---- lengths

-- the bytes that the count and the row numbers take
unfoldable pub fields_length : ℕ → ℕ
fields_length rows = length (field rows) + length (flatten (map field (iota 0 rows)))

rows_longer : (n : ℕ) (rows : List (List ℕ))
    → length (flatten (map (text_line 68) (numbered_from n rows))) ≡ length (flatten (map (text_line 68) rows)) + length (flatten (map field (iota n (length rows))))
unfolding flatten numbered_from iota
rows_longer n [] = refl
rows_longer n (cells ∷ rows) =
    omega
    (arith, rows_longer (suc n) rows, length_line 68 cells, length_line 68 (n ∷ cells), length-append (field n) (flatten (map field cells)), length-append (text_line 68 cells) (flatten (map (text_line 68) rows)), length-append (text_line 68 (n ∷ cells)) (flatten (map (text_line 68) (numbered_from (suc n) rows))), length-append (field n) (flatten (map field (iota (suc n) (length rows)))))

pub numbered_longer : (l : Listing) → length (listing_text true (to_numbered l)) ≡ length (listing_text false l) + fields_length (length l.rows)
unfolding listing_text to_numbered fields_length head_letter
numbered_longer l =
    let n = length l.rows in
    let head : length (flatten (map field (l.head ++ (n ∷ [])))) ≡ length (flatten (map field l.head)) + length (field n) =
    ap length (fields_more l.head n) ∙ length-append (flatten (map field l.head)) (field n) in
    omega
    (arith, head, rows_longer 0 l.rows, length_line 85 (l.head ++ (n ∷ [])), length_line 84 l.head, length-append (text_line 85 (l.head ++ (n ∷ []))) (flatten (map (text_line 68) (numbered_from 0 l.rows))), length-append (text_line 84 l.head) (flatten (map (text_line 68) l.rows)))

pub plain_shorter : (l : Listing) → is_listing true l ≡ true → lacks_row l ≡ false → length (listing_text true l) ≡ length (listing_text false (from_numbered l)) + fields_length (length l.rows)
plain_shorter l e none =
    ap (λ (k : Listing). length (listing_text true k)) (sym (to_from l e none))
    ∙ numbered_longer (from_numbered l)
    ∙ ap (λ (n : ℕ). length (listing_text false (from_numbered l)) + fields_length n) (unfold from_numbered in length-map l.rows (drop 1))

-- Which texts are of a form, checked line by line; a text determines its listing. Assumes nothing.
use Rattle.std.specs.Prelude.{◌+◌, ◌-◌, ◌≤◌, ◌<◌, ◌≡◌, ◌&&◌, ◌∷◌, ◌++◌}
use Rattle.listing_spec.specs.Laws.Prelude.{ℕ, suc, refl, sym, ap, subst, ◌∙◌, inl, inr, Bool, true, false, cond, not, and-false, false≢true, List, [], map, append_assoc, Option, none, some, arith, leb, ltb, eqb, length, get_or, eqb-true, eq-eqb, ne_eqb, leb-true, le-leb, ltb-true, lt-ltb, all_head, all_tail, all_cons, split, and_left, and_right, is_line, letter, numbers}
use Rattle.lists.specs.Lists.{all, flatten, above, rising}
use Rattle.plain_table.specs.Staged.{Opening, openable}
use Rattle.plain_table.proofs.Laws.Proper.{openable_bounds}
use Rattle.levels_text.specs.Written.{text_line}
use Rattle.listing_spec.specs.Listings.{Listing, head_letter, head_width, prefix_width, listing_text, are_numbers, is_head, is_row, row_numbers, are_numbered, is_listing, ParsesAs, parses, parses_none}
use Rattle.listing_spec.specs.inner.Checking.{pieces, is_nil, begins, row_fits, rows_good, lines_to_rows, pieces_good, listing_of, text_good, listing_in}
use Rattle.listing_spec.specs.Laws.Pieces.{joined, joined_pieces, pieces_some, pieces_line}
use Rattle.listing_spec.specs.Laws.Lines.{line_written, line_numbers, line_of, line_ended, read_numbers, read_letter, read_line, read_ended}

-- ---- strictly rising numbers, with a least first number

unfoldable pub rising_from : ℕ → List ℕ → Bool
rising_from least [] = true
rising_from least (x ∷ xs) = leb least x && rising_from (suc x) xs

above_from : (x : ℕ) (xs : List ℕ) → above x xs ≡ rising_from (suc x) xs
unfolding above rising_from
above_from x [] = refl
above_from x (y ∷ ys) = rw (above_from y ys)

pub rising_from_lem : (xs : List ℕ) → rising xs ≡ rising_from 0 xs
unfolding rising rising_from
rising_from_lem [] = refl
rising_from_lem (x ∷ xs) = rw (le-leb 0 x (omega arith)) (above_from x xs)

-- ---- the checks of a line

pub record LineMatches (first width : ℕ) (line : List ℕ) : Type 0 where
  pub is_line_lem : is_line line ≡ true
  pub lettered : letter line ≡ first
  pub wide : length (numbers line) ≡ width

pub line_matches : (first width : ℕ) (line : List ℕ) (rest : List (List ℕ)) → begins first width (line ∷ rest) ≡ true → LineMatches first width line
unfolding begins
line_matches first width line rest e =
    let a = is_line line in
    let b = eqb (letter line) first in
    let d = eqb (length (numbers line)) width in
    let tests = and_right (not (is_nil rest)) (a && b && d) e in
    record {
      is_line_lem = and_left a b (and_left (a && b) d tests);
      lettered = eqb-true (letter line) first (and_right a b (and_left (a && b) d tests));
      wide = eqb-true (length (numbers line)) width (and_right (a && b) d tests);
    }

pub begins_more : (first width : ℕ) (line : List ℕ) (rest : List (List ℕ)) → begins first width (line ∷ rest) ≡ true → is_nil rest ≡ false
unfolding begins
begins_more first width line rest e =
    let tests = is_line line && eqb (letter line) first && eqb (length (numbers line)) width in
    elim (split (is_nil rest)) [ inl n ↦ absurd (false≢true (rw n at (and_left (not (is_nil rest)) tests e))) | inr n ↦ n ]

line_matches_text : {first width : ℕ} {line : List ℕ} → LineMatches first width line → line ++ (10 ∷ []) ≡ text_line first (numbers line)
unfolding text_line
line_matches_text {first} {width} {line} b =
    ap (λ (l : List ℕ). l ++ (10 ∷ [])) (line_written line b.is_line_lem)
    ∙ ap (λ (x : ℕ). text_line x (numbers line)) b.lettered

line_cut : (first : ℕ) (ns text : List ℕ) → are_numbers ns ≡ true → (first ≡ 44 → ⊥) → (first ≡ 10 → ⊥)
    → pieces (text_line first ns ++ text) ≡ line_of first ns ∷ pieces text
line_cut first ns text fit comma end =
    ap (λ (l : List ℕ). pieces (l ++ text)) (line_ended first ns)
    ∙ ap pieces (append_assoc (line_of first ns) (10 ∷ []) text)
    ∙ pieces_line (line_of first ns) text (read_ended first ns comma fit end)

pub lead_few : (numbered : Bool) → prefix_width numbered ≤ 1
unfolding prefix_width
lead_few true = omega arith
lead_few false = omega arith

-- a line that is written
begins_written : (first : ℕ) (ns : List ℕ) (rest : List (List ℕ)) → (first ≡ 44 → ⊥) → are_numbers ns ≡ true → length ns ≤ 9 → is_nil rest ≡ false
    → begins first (length ns) (line_of first ns ∷ rest) ≡ true
unfolding begins
begins_written first ns rest comma fit few more =
    rw (more, read_line first ns comma fit few, read_letter first ns comma fit, read_numbers first ns comma fit, eq-eqb first first refl, eq-eqb (length ns) (length ns) refl)

module _ (count least : ℕ) (ns : List ℕ) where
  fits_of : (numbered : Bool) → not (eqb (get_or ns (prefix_width numbered) 0) 4294967295) ≡ true
      → (numbered ≡ true → (leb least (get_or ns 0 0) ≡ true) × (ltb (get_or ns 0 0) count ≡ true)) → row_fits numbered count least ns ≡ true
  unfolding row_fits
  fits_of true live ordered = rw (live, (ordered refl).0, (ordered refl).1)
  fits_of false live ordered = rw live

  fits_live : (numbered : Bool) → row_fits numbered count least ns ≡ true → not (eqb (get_or ns (prefix_width numbered) 0) 4294967295) ≡ true
  unfolding row_fits
  fits_live numbered e = and_left (not (eqb (get_or ns (prefix_width numbered) 0) 4294967295)) (cond numbered (leb least (get_or ns 0 0) && ltb (get_or ns 0 0) count) true) e

  fits_ordered : (numbered : Bool) → row_fits numbered count least ns ≡ true → numbered ≡ true → (leb least (get_or ns 0 0) ≡ true) × (ltb (get_or ns 0 0) count ≡ true)
  unfolding row_fits
  fits_ordered true e t =
      let o = and_right (not (eqb (get_or ns (prefix_width true) 0) 4294967295)) (leb least (get_or ns 0 0) && ltb (get_or ns 0 0) count) e in
      (and_left (leb least (get_or ns 0 0)) (ltb (get_or ns 0 0) count) o, and_right (leb least (get_or ns 0 0)) (ltb (get_or ns 0 0) count) o)
  fits_ordered false e t = absurd (false≢true t)

-- ---- rows within the bounds

pub record RowsFit (numbered : Bool) (columns count least left : ℕ) (rows : List (List ℕ)) : Type 0 where
  pub few : length rows ≤ left
  pub fit : all are_numbers rows ≡ true
  pub wide : all (is_row numbered columns) rows ≡ true
  pub ordered : numbered ≡ true → (rising_from least (row_numbers rows) ≡ true) × (all (λ n. ltb n count) (row_numbers rows) ≡ true)

module _ (line : List ℕ) (rest : List (List ℕ)) where
  pub rows_last : is_nil rest ≡ true → lines_to_rows (line ∷ rest) ≡ []
  unfolding lines_to_rows
  rows_last n = rw n

  pub rows_more : is_nil rest ≡ false → lines_to_rows (line ∷ rest) ≡ numbers line ∷ lines_to_rows rest
  unfolding lines_to_rows
  rows_more n = rw n

  joined_last : is_nil rest ≡ true → joined (line ∷ rest) ≡ line
  unfolding joined
  joined_last n = rw n

  joined_more : is_nil rest ≡ false → joined (line ∷ rest) ≡ line ++ (10 ∷ joined rest)
  unfolding joined
  joined_more n = rw n

no_bytes : (line : List ℕ) → length line ≡ 0 → line ≡ []
no_bytes [] e = refl
no_bytes (x ∷ line) e = absurd (omega (arith, e))

module _ (numbered : Bool) (columns count : ℕ) where
  pub fit_none : (least left : ℕ) → RowsFit numbered columns count least left []
  unfolding all rising_from row_numbers
  fit_none least left = record { few = omega arith; fit = refl; wide = refl; ordered = λ t. (refl, refl) }

  pub row_of : (ns : List ℕ) → length ns ≡ prefix_width numbered + columns → not (eqb (get_or ns (prefix_width numbered) 0) 4294967295) ≡ true → is_row numbered columns ns ≡ true
  unfolding is_row
  row_of ns wide live = rw (eq-eqb (length ns) (prefix_width numbered + columns) wide, live)

  pub row_parts : (ns : List ℕ) → is_row numbered columns ns ≡ true → (length ns ≡ prefix_width numbered + columns) × (not (eqb (get_or ns (prefix_width numbered) 0) 4294967295) ≡ true)
  unfolding is_row
  row_parts ns e =
      let a = eqb (length ns) (prefix_width numbered + columns) in
      let b = not (eqb (get_or ns (prefix_width numbered) 0) 4294967295) in
      (eqb-true (length ns) (prefix_width numbered + columns) (and_left a b e), and_right a b e)

  pub fit_more : (least left : ℕ) (ns : List ℕ) (rows : List (List ℕ)) → 0 < left → are_numbers ns ≡ true → is_row numbered columns ns ≡ true
      → (numbered ≡ true → (leb least (get_or ns 0 0) ≡ true) × (ltb (get_or ns 0 0) count ≡ true)) → RowsFit numbered columns count (suc (get_or ns 0 0)) (left - 1) rows
      → RowsFit numbered columns count least left (ns ∷ rows)
  unfolding rising_from row_numbers
  fit_more least left ns rows room fit row ordered r = record {
    few = omega (arith, r.few);
    fit = all_cons are_numbers ns rows fit r.fit;
    wide = all_cons (is_row numbered columns) ns rows row r.wide;
    ordered = λ t. (rw (ordered t).0 (r.ordered t).0, all_cons (λ n. ltb n count) (get_or ns 0 0) (row_numbers rows) (ordered t).1 (r.ordered t).1);
  }

  module _ (least left : ℕ) (ns : List ℕ) (rows : List (List ℕ)) (r : RowsFit numbered columns count least left (ns ∷ rows)) where
    fit_first : numbered ≡ true → (leb least (get_or ns 0 0) ≡ true) × (ltb (get_or ns 0 0) count ≡ true)
    unfolding rising_from row_numbers
    fit_first t = (and_left (leb least (get_or ns 0 0)) (rising_from (suc (get_or ns 0 0)) (row_numbers rows)) (r.ordered t).0, all_head (λ n. ltb n count) (get_or ns 0 0) (row_numbers rows) (r.ordered t).1)

    pub fit_rest : RowsFit numbered columns count (suc (get_or ns 0 0)) (left - 1) rows
    unfolding rising_from row_numbers
    fit_rest = record {
      few = omega (arith, r.few);
      fit = all_tail are_numbers ns rows r.fit;
      wide = all_tail (is_row numbered columns) ns rows r.wide;
      ordered = λ t. (and_right (leb least (get_or ns 0 0)) (rising_from (suc (get_or ns 0 0)) (row_numbers rows)) (r.ordered t).0, all_tail (λ n. ltb n count) (get_or ns 0 0) (row_numbers rows) (r.ordered t).1);
    }

  -- the checks, line by line
  module _ (line : List ℕ) (rest : List (List ℕ)) where
    pub good_last : (least left : ℕ) → is_nil rest ≡ true → rows_good numbered columns count least left (line ∷ rest) ≡ eqb (length line) 0
    unfolding rows_good
    good_last least left n = rw n

    pub good_more : (least left : ℕ) → is_nil rest ≡ false
        → rows_good numbered columns count least left (line ∷ rest)
        ≡ (ltb 0 left && (begins 68 (prefix_width numbered + columns) (line ∷ rest) && row_fits numbered count least (numbers line)) && rows_good numbered columns count (suc (get_or (numbers line) 0 0)) (left - 1) rest)
    unfolding rows_good
    good_more least left n = rw n

  -- neither a D line nor the end of the text
  pub no_row : (least left : ℕ) (ps : List (List ℕ)) → begins 68 (prefix_width numbered + columns) ps ≡ false → 0 < length (joined ps) → rows_good numbered columns count least left ps ≡ false
  no_row least left [] e long = unfold rows_good in refl
  no_row least left (line ∷ rest) e long =
      elim (split (is_nil rest)) [
        | inl n ↦ good_last line rest least left n ∙ ne_eqb (length line) 0 (λ z. omega (arith, long, z, ap length (joined_last line rest n)))
        | inr n ↦ good_more line rest least left n ∙ rw (e, and-false (ltb 0 left))
      ]

  -- lines that pass their checks are the text of such rows
  pub rows_shown : (least left : ℕ) (ps : List (List ℕ)) → rows_good numbered columns count least left ps ≡ true
      → (joined ps ≡ flatten (map (text_line 68) (lines_to_rows ps))) × RowsFit numbered columns count least left (lines_to_rows ps)
  rows_shown least left [] e = absurd (false≢true (unfold rows_good in e))
  rows_shown least left (line ∷ rest) e =
      elim (split (is_nil rest)) [
        | inl n ↦
            let none : line ≡ [] = no_bytes line (eqb-true (length line) 0 (sym (good_last line rest least left n) ∙ e)) in
            rw (rows_last line rest n, joined_last line rest n, none) (unfold flatten in refl, fit_none least left)
        | inr n ↦
            let w = prefix_width numbered + columns in
            let next = suc (get_or (numbers line) 0 0) in
            let room = ltb 0 left in
            let line-good = begins 68 w (line ∷ rest) in
            let row-good = row_fits numbered count least (numbers line) in
            let rest-good = rows_good numbered columns count next (left - 1) rest in
            let all_hold : (room && (line-good && row-good) && rest-good) ≡ true = sym (good_more line rest least left n) ∙ e in
            let here = and_left (room && (line-good && row-good)) rest-good all_hold in
            let both = and_right room (line-good && row-good) here in
            let ih = rows_shown next (left - 1) rest (and_right (room && (line-good && row-good)) rest-good all_hold) in
            let b = line_matches 68 w line rest (and_left line-good row-good both) in
            let f = and_right line-good row-good both in
            rw (rows_more line rest n, joined_more line rest n, ih.0) (
              sym (append_assoc line (10 ∷ []) (flatten (map (text_line 68) (lines_to_rows rest)))) ∙ rw (line_matches_text b) (unfold flatten in refl),
              fit_more least left (numbers line) (lines_to_rows rest) (ltb-true 0 left (and_left room (line-good && row-good) here)) (line_numbers line b.is_line_lem)
                  (row_of (numbers line) b.wide (fits_live count least (numbers line) numbered f)) (fits_ordered count least (numbers line) numbered f) ih.1,
            )
      ]

  -- the text of such rows consists of lines that pass their checks
  pub rows_read : columns ≤ 8 → (least left : ℕ) (rows : List (List ℕ)) → RowsFit numbered columns count least left rows
      → (rows_good numbered columns count least left (pieces (flatten (map (text_line 68) rows))) ≡ true) × (lines_to_rows (pieces (flatten (map (text_line 68) rows))) ≡ rows)
  unfolding flatten
  rows_read narrow least left [] r = unfold pieces is_nil rows_good lines_to_rows in (refl, refl)
  rows_read narrow least left (ns ∷ rows) r =
      let text = flatten (map (text_line 68) rows) in
      let fit = all_head are_numbers ns rows r.fit in
      let row = row_parts ns (all_head (is_row numbered columns) ns rows r.wide) in
      let line = line_of 68 ns in
      let cut : pieces (text_line 68 ns ++ text) ≡ line ∷ pieces text = line_cut 68 ns text fit (λ e. omega arith) (λ e. omega arith) in
      let more = pieces_some text in
      let few : length ns ≤ 9 = omega (arith, row.0, lead_few numbered) in
      let back : numbers line ≡ ns = read_numbers 68 ns (λ e. omega arith) fit in
      let ih = rows_read narrow (suc (get_or ns 0 0)) (left - 1) rows (fit_rest least left ns rows r) in
      let starts : begins 68 (prefix_width numbered + columns) (line ∷ pieces text) ≡ true = subst (λ (w : ℕ). begins 68 w (line ∷ pieces text) ≡ true) row.0 (begins_written 68 ns (pieces text) (λ e. omega arith) fit few more) in
      let fits = fits_of count least ns numbered row.1 (fit_first least left ns rows r) in
      let room : 0 < left = omega (arith, r.few) in
      rw cut (
        good_more line (pieces text) least left more ∙ rw (back, lt-ltb 0 left room, starts, fits) ih.0,
        rows_more line (pieces text) more ∙ rw (back, ih.1),
      )

-- ---- the whole text

letter_apart : (numbered : Bool) → (head_letter numbered ≡ 44 → ⊥) × (head_letter numbered ≡ 10 → ⊥)
unfolding head_letter
letter_apart true = (λ e. omega (arith, e), λ e. omega (arith, e))
letter_apart false = (λ e. omega (arith, e), λ e. omega (arith, e))

width_few : (numbered : Bool) → head_width numbered ≤ 9
unfolding head_width
width_few true = omega arith
width_few false = omega arith

-- the numbers of a head as those of an opening
abbrev pub head_opening : List ℕ → Opening
head_opening ns = record { columns = get_or ns 0 0; keys = get_or ns 1 0; sort = get_or ns 2 0; rule = get_or ns 3 0; capacity = 1 }

module _ (numbered : Bool) (ns : List ℕ) (e : is_head numbered ns ≡ true) where
  pub head_wide : length ns ≡ head_width numbered
  unfolding is_head
  head_wide = eqb-true _ _ (and_left _ _ (and_left _ _ e))

  pub head_bounds : openable (head_opening ns) ≡ true
  unfolding is_head
  head_bounds = and_right (eqb (length ns) (head_width numbered) && leb (get_or ns 5 0) 65536) _ e

  pub head_narrow : get_or ns 0 0 ≤ 8
  head_narrow = (openable_bounds (head_opening ns) head_bounds).columns_few

-- a listing within the bounds, part by part
pub record Bounded (numbered : Bool) (l : Listing) : Type 0 where
  pub head_fits : are_numbers l.head ≡ true
  pub head_good : is_head numbered l.head ≡ true
  pub rows_fit : RowsFit numbered (get_or l.head 0 0) (get_or l.head 5 0) 0 65536 l.rows

module _ (count : ℕ) (rows : List (List ℕ)) where
  ordered_of : (numbered : Bool) → (numbered ≡ true → (rising_from 0 (row_numbers rows) ≡ true) × (all (λ n. ltb n count) (row_numbers rows) ≡ true))
      → cond numbered (are_numbered count rows) true ≡ true
  unfolding are_numbered
  ordered_of true o = rw (rising_from_lem (row_numbers rows), (o refl).0, (o refl).1)
  ordered_of false o = refl

  ordered_parts : (numbered : Bool) → cond numbered (are_numbered count rows) true ≡ true → numbered ≡ true
      → (rising_from 0 (row_numbers rows) ≡ true) × (all (λ n. ltb n count) (row_numbers rows) ≡ true)
  unfolding are_numbered
  ordered_parts true e t = (
    sym (rising_from_lem (row_numbers rows)) ∙ and_left (rising (row_numbers rows)) (all (λ n. ltb n count) (row_numbers rows)) e,
    and_right (rising (row_numbers rows)) (all (λ n. ltb n count) (row_numbers rows)) e,
  )
  ordered_parts false e t = absurd (false≢true t)

module _ (numbered : Bool) (l : Listing) where
  pub listing_of_lem : Bounded numbered l → is_listing numbered l ≡ true
  unfolding is_listing
  listing_of_lem b =
      rw (all_cons are_numbers l.head l.rows b.head_fits b.rows_fit.fit, b.head_good, le-leb (length l.rows) 65536 b.rows_fit.few, b.rows_fit.wide)
      (ordered_of (get_or l.head 5 0) l.rows numbered b.rows_fit.ordered)

  pub listing_parts : is_listing numbered l ≡ true → Bounded numbered l
  unfolding is_listing
  listing_parts e =
      let a = all are_numbers (l.head ∷ l.rows) in
      let c = is_head numbered l.head in
      let d = leb (length l.rows) 65536 in
      let f = all (is_row numbered (get_or l.head 0 0)) l.rows in
      let g = cond numbered (are_numbered (get_or l.head 5 0) l.rows) true in
      let e₄ = and_left (a && c && d && f) g e in
      let e₃ = and_left (a && c && d) f e₄ in
      let e₂ = and_left (a && c) d e₃ in
      let e₁ = and_left a c e₂ in
      record {
        head_fits = all_head are_numbers l.head l.rows e₁;
        head_good = and_right a c e₂;
        rows_fit = record {
          few = leb-true (length l.rows) 65536 (and_right (a && c) d e₃);
          fit = all_tail are_numbers l.head l.rows e₁;
          wide = and_right (a && c && d) f e₄;
          ordered = ordered_parts (get_or l.head 5 0) l.rows numbered (and_right (a && c && d && f) g e);
        };
      }

pub shown_listing : {numbered : Bool} {text : List ℕ} {l : Listing} → ParsesAs numbered text (some l) → is_listing numbered l ≡ true
shown_listing (parses l good same) = good

pub shown_text : {numbered : Bool} {text : List ℕ} {l : Listing} → ParsesAs numbered text (some l) → text ≡ listing_text numbered l
shown_text (parses l good same) = same

-- a text that passes the checks is the text of the listing that is read from it
module _ (numbered : Bool) where
  pieces_shown : (ps : List (List ℕ)) → pieces_good numbered ps ≡ true → (joined ps ≡ listing_text numbered (listing_of ps)) × Bounded numbered (listing_of ps)
  unfolding pieces_good listing_of listing_text
  pieces_shown [] e = absurd (false≢true e)
  pieces_shown (line ∷ rest) e =
      let a = begins (head_letter numbered) (head_width numbered) (line ∷ rest) in
      let h = is_head numbered (numbers line) in
      let r = rows_good numbered (get_or (numbers line) 0 0) (get_or (numbers line) 5 0) 0 65536 rest in
      let here = and_left (a && h) r e in
      let b = line_matches (head_letter numbered) (head_width numbered) line rest (and_left a h here) in
      let rows = rows_shown numbered (get_or (numbers line) 0 0) (get_or (numbers line) 5 0) 0 65536 rest (and_right (a && h) r e) in (
        joined_more line rest (begins_more (head_letter numbered) (head_width numbered) line rest (and_left a h here))
            ∙ rw rows.0 (sym (append_assoc line (10 ∷ []) (flatten (map (text_line 68) (lines_to_rows rest)))) ∙ rw (line_matches_text b)),
        record { head_fits = line_numbers line b.is_line_lem; head_good = and_right a h here; rows_fit = rows.1 },
      )

  pub text_shown : (text : List ℕ) → text_good numbered text ≡ true → ParsesAs numbered text (some (listing_in text))
  unfolding text_good listing_in
  text_shown text e =
      let s = pieces_shown (pieces text) e in
      parses (listing_of (pieces text)) (listing_of_lem numbered (listing_of (pieces text)) s.1) (sym (joined_pieces text) ∙ s.0)

  -- the text of a listing passes the checks, and that listing is read from it
  text_read : (l : Listing) → is_listing numbered l ≡ true → (text_good numbered (listing_text numbered l) ≡ true) × (listing_in (listing_text numbered l) ≡ l)
  unfolding text_good listing_in listing_text pieces_good listing_of
  text_read l e =
      let b = listing_parts numbered l e in
      let text = flatten (map (text_line 68) l.rows) in
      let line = line_of (head_letter numbered) l.head in
      let comma = (letter_apart numbered).0 in
      let wide = head_wide numbered l.head b.head_good in
      let cut : pieces (text_line (head_letter numbered) l.head ++ text) ≡ line ∷ pieces text = line_cut (head_letter numbered) l.head text b.head_fits comma (letter_apart numbered).1 in
      let back : numbers line ≡ l.head = read_numbers (head_letter numbered) l.head comma b.head_fits in
      let few : length l.head ≤ 9 = omega (arith, wide, width_few numbered) in
      let starts : begins (head_letter numbered) (head_width numbered) (line ∷ pieces text) ≡ true = subst (λ (w : ℕ). begins (head_letter numbered) w (line ∷ pieces text) ≡ true) wide (begins_written (head_letter numbered) l.head (pieces text) comma b.head_fits few (pieces_some text)) in
      let rows = rows_read numbered (get_or l.head 0 0) (get_or l.head 5 0) (head_narrow numbered l.head b.head_good) 0 65536 l.rows b.rows_fit in
      rw cut (rw (back, starts, b.head_good) rows.0, rw (back, rows.1))

  pub text_wrong : (text : List ℕ) → text_good numbered text ≡ false → ParsesAs numbered text none
  text_wrong text e = parses_none (λ l good same. false≢true (sym e ∙ rw same (text_read l good).0))

  -- the text determines the listing
  pub text_determines : (text : List ℕ) (l m : Listing) → is_listing numbered l ≡ true → is_listing numbered m ≡ true → text ≡ listing_text numbered l → text ≡ listing_text numbered m → l ≡ m
  text_determines text l m a b p q = sym (text_read l a).1 ∙ ap listing_in (sym p ∙ q) ∙ (text_read m b).1

  pub parses_determined : {text : List ℕ} {l m : Option Listing} → ParsesAs numbered text l → ParsesAs numbered text m → l ≡ m
  parses_determined {text} (parses l a p) (parses m b q) = ap some (text_determines text l m a b p q)
  parses_determined (parses l a p) (parses_none n) = absurd (n l a p)
  parses_determined (parses_none n) (parses m b q) = absurd (n m b q)
  parses_determined (parses_none n) (parses_none k) = refl

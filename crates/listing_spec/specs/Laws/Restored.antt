-- A listing converted to the other form is of that form, and converting it back restores the text. Assumes nothing.
use Rattle.refusals.specs.declared.Refusal.{Refusal}
use Rattle.std.specs.Prelude.{◌+◌, ◌-◌, ◌≤◌, ◌<◌, ◌≡◌, ◌&&◌, ◌∷◌, ◌++◌, Result, Ok}
use Rattle.listing_spec.specs.Laws.Prelude.{ℕ, zero, suc, refl, sym, ap, ap₂, ◌∙◌, inl, inr, Bool, true, false, false≢true, List, [], map, Option, none, some, arith, leb, ltb, length, take, drop, get_or, length-append, List·getD-append, List·getD-eq-default, get_or-take, length-take-le, get_or_at, eq-eqb, le-leb, lt-ltb, all_head, all_tail, all_cons, all_snoc, split, all_get_d, all_of, take_put}
use Rattle.std.proofs.Math.Option.{Option-elim}
use Rattle.lists.specs.Lists.{all, splice}
use Rattle.refusals.specs.Refusals.{check, first_refusal, accepted, reply, Effect, answer_view}
use Rattle.listing_spec.specs.Listings.{Listing, head_width, prefix_width, listing_text, are_numbers, is_head, is_row, is_listing, ParsesAs, parses, numbered_from, to_numbered, from_numbered, lacks_row, converted_text, convert_refusal, ListingConverted, RestoresText}
use Rattle.listing_spec.specs.Laws.Texts.{RowsFit, Bounded, listing_parts, listing_of_lem, head_wide, head_bounds, row_parts, row_of, fit_none, fit_more, fit_rest, shown_listing, shown_text, parses_determined}
use Rattle.listing_spec.specs.Laws.Conversions.{length_numbered_from, lacks_none, to_from, from_to}

-- ---- to the new form

numbers_more : (n : ℕ) (ns : List ℕ) → n ≤ 4294967295 → are_numbers ns ≡ true → are_numbers (n ∷ ns) ≡ true
unfolding are_numbers all
numbers_more n ns fits e = rw (le-leb n 4294967295 fits) e

row_numbered : (columns n : ℕ) (cells : List ℕ) → is_row false columns cells ≡ true → is_row true columns (n ∷ cells) ≡ true
unfolding prefix_width
row_numbered columns n cells e =
    let p = row_parts false columns 0 cells e in
    row_of true columns 0 (n ∷ cells) (omega (arith, p.0)) p.1

rows_numbered : (columns count n left least count' : ℕ) (rows : List (List ℕ)) → RowsFit false columns count' least left rows → n + length rows ≤ count → count ≤ 65536
    → RowsFit true columns count n left (numbered_from n rows)
unfolding numbered_from
rows_numbered columns count n left least count' [] r below few = fit_none true columns count n left
rows_numbered columns count n left least count' (cells ∷ rows) r below few =
    let less : n < count = omega (arith, below) in
    fit_more true columns count n left (n ∷ cells) (numbered_from (suc n) rows) (omega (arith, r.few))
    (numbers_more n cells (omega arith) (all_head are_numbers cells rows r.fit))
    (row_numbered columns n cells (all_head (is_row false columns) cells rows r.wide))
    (λ t. (le-leb n n (omega arith), lt-ltb n count less))
    (rows_numbered columns count (suc n) (left - 1) (suc (get_or cells 0 0)) count' rows (fit_rest false columns count' least left cells rows r) (omega (arith, below)) few)

module _ (l : Listing) (e : is_listing false l ≡ true) where
  plain : Bounded false l
  plain = listing_parts false l e

  five : length l.head ≡ 5
  five = head_wide false l.head plain.head_good ∙ (unfold head_width in refl)

  abbrev n : ℕ
  n = length l.rows

  before : (i : ℕ) → i < 5 → get_or (l.head ++ (n ∷ [])) i 0 ≡ get_or l.head i 0
  before i h = List·getD-append l.head (n ∷ []) 0 i (omega (arith, five))

  last : get_or (l.head ++ (n ∷ [])) 5 0 ≡ n
  last = get_or_at l.head n [] 0 5 five

  head_numbered : is_head true (l.head ++ (n ∷ [])) ≡ true
  unfolding is_head head_width
  head_numbered =
      let six : length (l.head ++ (n ∷ [])) ≡ 6 = omega (arith, length-append l.head (n ∷ []), five) in
      rw (eq-eqb (length (l.head ++ (n ∷ []))) 6 six, before 0 (omega arith), before 1 (omega arith), before 2 (omega arith), before 3 (omega arith), last, head_bounds false l.head plain.head_good, le-leb n 65536 plain.rows_fit.few)

  pub to_listing : is_listing true (to_numbered l) ≡ true
  to_listing = listing_of_lem true (to_numbered l) (unfold to_numbered in record { head_fits = fits; head_good = head_numbered; rows_fit = rows })
    where
      fits : are_numbers (l.head ++ (n ∷ [])) ≡ true
      fits = unfold are_numbers in all_snoc (λ m. leb m 4294967295) l.head n plain.head_fits (le-leb n 4294967295 (omega (arith, plain.rows_fit.few)))

      rows : RowsFit true (get_or (l.head ++ (n ∷ [])) 0 0) (get_or (l.head ++ (n ∷ [])) 5 0) 0 65536 (numbered_from 0 l.rows)
      rows = rw (before 0 (omega arith), last) (rows_numbered (get_or l.head 0 0) n 0 65536 0 (get_or l.head 5 0) l.rows plain.rows_fit (omega arith) plain.rows_fit.few)

  pub to_full : lacks_row (to_numbered l) ≡ false
  to_full = lacks_none (to_numbered l) to_listing (unfold to_numbered in length_numbered_from 0 l.rows ∙ sym last)

-- ---- to the old form

numbers_drop : (ns : List ℕ) → are_numbers ns ≡ true → are_numbers (drop 1 ns) ≡ true
unfolding are_numbers
numbers_drop [] e = e
numbers_drop (n ∷ ns) e = all_tail (λ m. leb m 4294967295) n ns e

row_plain : (columns : ℕ) (ns : List ℕ) → is_row true columns ns ≡ true → is_row false columns (drop 1 ns) ≡ true
unfolding prefix_width
row_plain columns [] e = absurd (let p = row_parts true columns 0 [] e in omega (arith, p.0))
row_plain columns (n ∷ ns) e = let p = row_parts true columns 0 (n ∷ ns) e in row_of false columns 0 ns (omega (arith, p.0)) p.1

rows_plain : (columns : ℕ) (rows : List (List ℕ)) → all are_numbers rows ≡ true → all (is_row true columns) rows ≡ true
    → (all are_numbers (map (drop 1) rows) ≡ true) × (all (is_row false columns) (map (drop 1) rows) ≡ true) × (length (map (drop 1) rows) ≡ length rows)
rows_plain columns [] a b = (unfold all in refl, unfold all in refl, refl)
rows_plain columns (ns ∷ rows) a b =
    let ih = rows_plain columns rows (all_tail are_numbers ns rows a) (all_tail (is_row true columns) ns rows b) in (
      all_cons are_numbers (drop 1 ns) (map (drop 1) rows) (numbers_drop ns (all_head are_numbers ns rows a)) ih.0,
      all_cons (is_row false columns) (drop 1 ns) (map (drop 1) rows) (row_plain columns ns (all_head (is_row true columns) ns rows b)) ih.1,
      ap suc ih.2,
    )

module _ (l : Listing) (e : is_listing true l ≡ true) where
  numbered_parts : Bounded true l
  numbered_parts = listing_parts true l e

  six : length l.head ≡ 6
  six = head_wide true l.head numbered_parts.head_good ∙ (unfold head_width in refl)

  kept : (i : ℕ) → i < 5 → get_or (take 5 l.head) i 0 ≡ get_or l.head i 0
  kept i h = get_or-take 5 l.head i 0 h

  long : length (take 5 l.head) ≡ 5
  long = length-take-le 5 l.head (omega (arith, six))

  head_plain : is_head false (take 5 l.head) ≡ true
  unfolding is_head head_width
  head_plain = rw (eq-eqb (length (take 5 l.head)) 5 long, kept 0 (omega arith), kept 1 (omega arith), kept 2 (omega arith), kept 3 (omega arith), List·getD-eq-default (take 5 l.head) 0 {n = 5} (omega (arith, long)), head_bounds true l.head numbered_parts.head_good)

  head_fits_plain : are_numbers (take 5 l.head) ≡ true
  unfolding are_numbers
  head_fits_plain =
      all_of (λ m. leb m 4294967295) 0 (take 5 l.head)
      (λ i h. rw (kept i (omega (arith, long))) (all_get_d (λ m. leb m 4294967295) l.head numbered_parts.head_fits i (omega (arith, long, six)) 0))

  pub from_listing : is_listing false (from_numbered l) ≡ true
  from_listing = listing_of_lem false (from_numbered l) (unfold from_numbered in record { head_fits = head_fits_plain; head_good = head_plain; rows_fit = rows })
    where
      rows : RowsFit false (get_or (take 5 l.head) 0 0) (get_or (take 5 l.head) 5 0) 0 65536 (map (drop 1) l.rows)
      rows =
          let p = rows_plain (get_or l.head 0 0) l.rows numbered_parts.rows_fit.fit numbered_parts.rows_fit.wide in
          record {
            few = omega (arith, p.2, numbered_parts.rows_fit.few);
            fit = p.0;
            wide = rw (kept 0 (omega arith)) p.1;
            ordered = λ t. absurd (false≢true t);
          }

-- ---- the texts

pub accepted_number : {bytes : ℕ} (m k : ℕ) → accepted bytes ≡ reply k m → k ≡ 0
unfolding reply
accepted_number m zero e = refl
accepted_number m (suc k) e = absurd (let z : ◌≡◌ {A = ℕ} 0 1 = cc in omega arith)

pub accepted_same : {bytes m : ℕ} → accepted bytes ≡ accepted m → bytes ≡ m
accepted_same e = cc

-- an accepted conversion has written the text in the other form
module _ {numbered : Bool} {text output output' : List ℕ} {bytes : ℕ} (x : ListingConverted numbered text output (Ok bytes) output') where
  accepted_conversion : convert_refusal numbered x.listing (length output) ≡ 0
  unfolding answer_view
  accepted_conversion = accepted_number (length (converted_text numbered x.listing)) (convert_refusal numbered x.listing (length output)) x.effect.answers

  converted_bytes : bytes ≡ length (converted_text numbered x.listing)
  unfolding answer_view reply
  converted_bytes = accepted_same (rw accepted_conversion at x.effect.answers)

  pub converted_taken : take bytes output' ≡ converted_text numbered x.listing
  converted_taken = rw (converted_bytes, x.effect.written accepted_conversion) (take_put output (converted_text numbered x.listing))

none_missing : (l : Listing) (room : ℕ) → convert_refusal true (some l) room ≡ 0 → lacks_row l ≡ false
unfolding convert_refusal Option-elim first_refusal
none_missing l room given =
    elim (split (lacks_row l)) [
      | inl t ↦ absurd (let z : ◌≡◌ {A = ℕ} 17 0 = rw t at given in omega (arith, z))
      | inr f ↦ f
    ]

-- the number returned by the conversion back: 2 if the output is shorter than the text, 0 otherwise
abbrev short : List ℕ → ℕ → ℕ
short text room = first_refusal (check (ltb room (length text)) 2 ∷ [])

-- a listing whose text in the other form is this one; it is refused only if the output is too short
record Back (numbered : Bool) (text : List ℕ) (m : Option Listing) : Type 0 where
  pub same : converted_text numbered m ≡ text
  pub number : (room : ℕ) → convert_refusal numbered m room ≡ short text room

back_of : (numbered : Bool) (text : List ℕ) (l : Listing) → (numbered && lacks_row l) ≡ false → converted_text numbered (some l) ≡ text → Back numbered text (some l)
back_of numbered text l full e = record { same = e; number = λ room. unfold convert_refusal Option-elim in rw e (unfold first_refusal in rw full) }

come_back : (text : List ℕ) (k : Option Listing) (room : ℕ) → ParsesAs false text k → convert_refusal false k room ≡ 0 → (moved : List ℕ) → moved ≡ converted_text false k → (m : Option Listing) → ParsesAs true moved m
    → Back true text m
unfolding converted_text Option-elim
come_back text none room s given moved e m sm = absurd (unfold convert_refusal Option-elim in omega (arith, given))
come_back text (some l) room s given moved e m sm =
    let good = shown_listing s in
    let there : ParsesAs true moved (some (to_numbered l)) = parses (to_numbered l) (to_listing l good) e in
    let n : m ≡ some (to_numbered l) = parses_determined true sm there in
    rw n (back_of true text (to_numbered l) (to_full l good) (ap (listing_text false) (from_to l good) ∙ sym (shown_text s)))

come_again : (text : List ℕ) (k : Option Listing) (room : ℕ) → ParsesAs true text k → convert_refusal true k room ≡ 0 → (moved : List ℕ) → moved ≡ converted_text true k → (m : Option Listing) → ParsesAs false moved m
    → Back false text m
unfolding converted_text Option-elim
come_again text none room s given moved e m sm = absurd (unfold convert_refusal Option-elim in omega (arith, given))
come_again text (some l) room s given moved e m sm =
    let good = shown_listing s in
    let there : ParsesAs false moved (some (from_numbered l)) = parses (from_numbered l) (from_listing l good) e in
    let n : m ≡ some (from_numbered l) = parses_determined false sm there in
    rw n (back_of false text (from_numbered l) refl (ap (listing_text true) (to_from l good (none_missing l room given)) ∙ sym (shown_text s)))

-- The conversion back is refused only with 2, and exactly if the output is shorter than the text; accepted, it writes the text.
abbrev pub Restored : List ℕ → List ℕ → Result ℕ Refusal → List ℕ → Type 0
Restored text output answer output' = Effect (short text (length output)) (answer_view answer) (length text) output output' (splice output 0 text)

-- therefore the conversion back restores the text
restored : {numbered : Bool} {text moved again again' : List ℕ} {answer : Result ℕ Refusal} (y : ListingConverted numbered moved again answer again') → Back numbered text y.listing
    → Restored text again answer again'
restored {text = text} {again = again} y b =
    let n = b.number (length again) in
    record {
      answers = y.effect.answers ∙ ap₂ (λ (k : ℕ) (t : List ℕ). reply k (length t)) n b.same;
      unchanged = λ some. y.effect.unchanged (rw n some);
      written = λ none. rw (← b.same) (y.effect.written (n ∙ none));
    }

-- "coming back restores the text exactly"
pub roundtrip_from_old : RestoresText false
roundtrip_from_old text output output' again again' bytes answer x y =
    restored y (come_back text x.listing (length output) x.shown (accepted_conversion x) _ (converted_taken x) y.listing y.shown)

-- "New to old and again to new restores it too wherever it is accepted"
pub roundtrip_from_new : RestoresText true
roundtrip_from_new text output output' again again' bytes answer x y =
    restored y (come_again text x.listing (length output) x.shown (accepted_conversion x) _ (converted_taken x) y.listing y.shown)

-- an accepted conversion back has written the text
pub restored_taken : {text again again' : List ℕ} (bytes : ℕ) → Restored text again (Ok bytes) again' → take bytes again' ≡ text
unfolding answer_view reply
restored_taken {text} {again} bytes r =
    let zero = accepted_number (length text) (short text (length again)) r.answers in
    let long : bytes ≡ length text = accepted_same (r.answers ∙ ap (λ (k : ℕ). reply k (length text)) zero) in
    rw (long, r.written zero) (take_put again text)

-- The ways through `line_at` and `reread_line`: the numbers read so far, and what is to come of the line. Assumes nothing.
use Rattle.listing_parse.proofs.Prelude.{ℕ, suc, ◌+◌, ◌-◌, ◌≤◌, ◌<◌, ◌≡◌, refl, sym, ap, ◌∙◌, inl, inr, true, false, ◌&&◌, false≢true, List, [], ◌∷◌, ◌++◌, map, append-nil, append_assoc, arith, add-one, length, take, drop, get_or, set, length-drop, length-append, length-take-le, length-set, drop-cons, drop-drop, take-suc-set, eqb, eq-eqb, eqb-true, eqb-false, split, and_left, splice_nil, put_more, length_first, decimal_some, numbers, Number, Found, LineAt}
use Rattle.lists.specs.Lists.{splice}
use Rattle.levels_text.specs.Lines.{value_from, is_decimal}
use Rattle.levels_text.specs.Laws.Lines.{others}
use Rattle.listing_spec.specs.inner.Checking.{pieces, begins}
use Rattle.listing_parse.specs.inner.Lines.{line_from, field_from, DecimalFound, Reread, LineReread}
use Rattle.listing_parse.proofs.Fields.{rest_from, pieces_cons, rest_end, rest_more, others_end, others_from_comma, line_comma, Behind, field_behind, comes, comes_field, comes_more, comes_end, comes_comma, comes_newline, comes_inside, line_numbers, begins_comes, begins_other}

-- ---- what comes at a place

module _ (text : List ℕ) (at : ℕ) (inside : at < length text) where
  comes_at : (count : ℕ) → get_or text at 0 ≡ 44
      → comes (suc count) (drop at text) ≡ (is_decimal (field_from (drop (at + 1) text)) && comes count (drop (at + 1 + length (field_from (drop (at + 1) text))) text))
  comes_at count comma =
      rw (add-one, drop-cons text at 0 inside, comma, ← drop-drop (length (field_from (drop (suc at) text))) (suc at) text) (comes_more count (drop (suc at) text))

  others_at : get_or text at 0 ≡ 44 → others (line_from (drop at text)) ≡ field_from (drop (at + 1) text) ∷ others (line_from (drop (at + 1) text))
  others_at comma = rw (add-one, drop-cons text at 0 inside, comma) (others_from_comma (drop (suc at) text))

  rest_at : get_or text at 0 ≡ 44 → rest_from (drop at text) ≡ rest_from (drop (at + 1) text)
  rest_at comma = rw (add-one, drop-cons text at 0 inside, comma) (rest_more 44 (drop (suc at) text) (λ e. omega (arith, e)))

  line_at_comma : get_or text at 0 ≡ 44 → line_from (drop at text) ≡ 44 ∷ line_from (drop (at + 1) text)
  line_at_comma comma = rw (add-one, drop-cons text at 0 inside, comma) (line_comma (drop (suc at) text))

  comma_at : (count : ℕ) → comes (suc count) (drop at text) ≡ true → get_or text at 0 ≡ 44
  comma_at count e = comes_comma (get_or text at 0) (drop (suc at) text) count (rw (← drop-cons text at 0 inside) e)

  newline_at : comes 0 (drop at text) ≡ true → get_or text at 0 ≡ 10
  newline_at e = comes_newline (get_or text at 0) (drop (suc at) text) (rw (← drop-cons text at 0 inside) e)

  letter_at : (first width : ℕ) → begins first width (pieces (drop at text)) ≡ true → get_or text at 0 ≡ first
  letter_at first width e =
      elim (split (eqb (get_or text at 0) first)) [
        | inl f ↦ eqb-true (get_or text at 0) first f
        | inr f ↦ absurd (false≢true (sym (begins_other first width (get_or text at 0) (drop (suc at) text) (eqb-false (get_or text at 0) first f)) ∙ rw (← drop-cons text at 0 inside) e))
      ]

-- behind the field at a place
behind_at : (text : List ℕ) (at : ℕ) → Behind (drop at text) (drop (at + length (field_from (drop at text))) text)
behind_at text at = rw (← drop-drop (length (field_from (drop at text))) at text) (field_behind (drop at text))

-- ---- the numbers read so far

pub record Sound (text : List ℕ) (start : ℕ) (read : List ℕ) (at : ℕ) : Type 0 where
  pub worth : numbers (line_from (drop start text)) ≡ read ++ map (value_from 0) (others (line_from (drop at text)))
  pub rest : rest_from (drop start text) ≡ rest_from (drop at text)

pub record Passed (text : List ℕ) (start first width : ℕ) (read : List ℕ) (at : ℕ) : Type 0 where
  pub forward : start < at
  pub inside : at < length text
  pub tests : begins first width (pieces (drop start text)) ≡ comes (width - length read) (drop at text)
  pub sound : begins first width (pieces (drop start text)) ≡ true → Sound text start read at

module _ (text : List ℕ) (start first width : ℕ) (before : start < length text) (letter : get_or text start 0 ≡ first) (above : 44 < first) (few : width ≤ 9) where
  here : drop start text ≡ first ∷ drop (start + 1) text
  here = rw (add-one, drop-cons text start 0 before, letter)

  letter_comes : begins first width (pieces (drop start text)) ≡ comes width (drop (start + 1) text)
  letter_comes = rw here (begins_comes width first (λ e. omega arith) (λ e. omega arith) (drop (start + 1) text) few)

  passed_begin : start + 1 < length text → Passed text start first width [] (start + 1)
  passed_begin after = record {
    forward = omega arith;
    inside = after;
    tests = let n : width ≡ width - 0 = omega arith in letter_comes ∙ ap (λ (k : ℕ). comes k (drop (start + 1) text)) n;
    sound = λ e. record {
      worth = rw here (line_numbers first (drop (start + 1) text) (λ e. omega arith) (λ e. omega arith));
      rest = rw here (rest_more first (drop (start + 1) text) (λ e. omega arith));
    };
  }

module _ {text : List ℕ} {start first width : ℕ} {read : List ℕ} {at : ℕ} (p : Passed text start first width read at) where
  module _ (less : length read < width) where
    tests_more : begins first width (pieces (drop start text)) ≡ comes (suc (width - suc (length read))) (drop at text)
    tests_more = let n : width - length read ≡ suc (width - suc (length read)) = omega arith in p.tests ∙ ap (λ (k : ℕ). comes k (drop at text)) n

    passed_comma : begins first width (pieces (drop start text)) ≡ true → get_or text at 0 ≡ 44
    passed_comma e = comma_at text at p.inside (width - suc (length read)) (sym tests_more ∙ e)

    module _ (comma : get_or text at 0 ≡ 44) where
      field_next : begins first width (pieces (drop start text))
          ≡ (is_decimal (field_from (drop (at + 1) text)) && comes (width - suc (length read)) (drop (at + 1 + length (field_from (drop (at + 1) text))) text))
      field_next = tests_more ∙ comes_at text at p.inside (width - suc (length read)) comma

      passed_decimal : begins first width (pieces (drop start text)) ≡ true → is_decimal (field_from (drop (at + 1) text)) ≡ true
      passed_decimal e =
          and_left (is_decimal (field_from (drop (at + 1) text))) (comes (width - suc (length read)) (drop (at + 1 + length (field_from (drop (at + 1) text))) text)) (sym field_next ∙ e)

      passed_inside : begins first width (pieces (drop start text)) ≡ true → at + 1 + length (field_from (drop (at + 1) text)) < length text
      unfolding field_from
      passed_inside e =
          omega (arith, comes_inside (suc (width - suc (length read))) (drop at text) (sym tests_more ∙ e), length-drop at text, ap length (line_at_comma text at p.inside comma), length_first (line_from (drop (at + 1) text)))

      passed_more : (n : Number) → DecimalFound text (at + 1) n → Passed text start first width (read ++ (n.value ∷ [])) n.end
      passed_more n d = record {
        forward = omega (arith, d.forward, p.forward);
        inside = d.inside;
        tests = tests_next;
        sound = sound_next;
      }
        where
          count : width - length (read ++ (n.value ∷ [])) ≡ width - suc (length read)
          count = omega (arith, length-append read (n.value ∷ []))

          ended : length (field_from (drop n.end text)) ≡ 0 → n.end ≡ at + 1 + length (field_from (drop (at + 1) text))
          ended none = omega (arith, none, d.whole)

          tests_next : begins first width (pieces (drop start text)) ≡ comes (width - length (read ++ (n.value ∷ []))) (drop n.end text)
          tests_next =
              elim (split (eqb (length (field_from (drop n.end text))) 0)) [
                | inl e ↦ rw (count, ended (eqb-true (length (field_from (drop n.end text))) 0 e)) (field_next ∙ rw (d.decimal ∙ e))
                | inr e ↦ field_next ∙ rw (d.decimal ∙ e) (sym (comes_field (width - length (read ++ (n.value ∷ []))) (drop n.end text) (eqb-false (length (field_from (drop n.end text))) 0 e)))
              ]

          sound_next : begins first width (pieces (drop start text)) ≡ true → Sound text start (read ++ (n.value ∷ [])) n.end
          sound_next e =
              let none = eqb-true (length (field_from (drop n.end text))) 0 (sym d.decimal ∙ passed_decimal e) in
              let s = p.sound e in
              let b : Behind (drop (at + 1) text) (drop n.end text) = rw (ended none) (behind_at text (at + 1)) in
              record {
                worth =
                    s.worth
                    ∙ ap (λ (fs : List (List ℕ)). read ++ map (value_from 0) fs) (others_at text at p.inside comma)
                    ∙ ap (λ (v : ℕ). read ++ (v ∷ map (value_from 0) (others (line_from (drop (at + 1) text))))) (sym (d.worth none))
                    ∙ ap (λ (fs : List (List ℕ)). read ++ (n.value ∷ map (value_from 0) fs)) (sym b.others)
                    ∙ sym (append_assoc read (n.value ∷ []) (map (value_from 0) (others (line_from (drop n.end text)))));
                rest = s.rest ∙ rest_at text at p.inside comma ∙ sym b.rest;
              }

  module _ (done : length read ≡ width) where
    tests_end : begins first width (pieces (drop start text)) ≡ comes 0 (drop at text)
    tests_end = let n : width - length read ≡ 0 = omega arith in p.tests ∙ ap (λ (k : ℕ). comes k (drop at text)) n

    passed_newline : begins first width (pieces (drop start text)) ≡ true → get_or text at 0 ≡ 10
    passed_newline e = newline_at text at p.inside (sym tests_end ∙ e)

    passed_found : get_or text at 0 ≡ 10 → {stored : List ℕ} → width ≤ length stored → take width stored ≡ read → Found text start first width (at + 1) stored
    passed_found newline wide stores =
        let s = p.sound good in
        record {
          forward = omega (arith, p.forward);
          inside = omega (arith, p.inside);
          cut = pieces_cons (drop start text) ∙ ap (λ (ps : List (List ℕ)). line_from (drop start text) ∷ ps) (s.rest ∙ rw (there, rest_end (drop (at + 1) text)));
          good = good;
          read = stores ∙ sym (s.worth ∙ rw (there, others_end (drop (at + 1) text)) (append-nil read));
          wide = wide;
        }
      where
        there : drop at text ≡ 10 ∷ drop (at + 1) text
        there = rw (add-one, drop-cons text at 0 p.inside, newline)

        good : begins first width (pieces (drop start text)) ≡ true
        good = tests_end ∙ rw there (comes_end (drop (at + 1) text))

-- ---- and stored

pub record Reading (text : List ℕ) (start first width : ℕ) (lent stored : List ℕ) (at count : ℕ) : Type 0 where
  pub passed : Passed text start first width (take count stored) at
  pub few : count ≤ width
  pub room : width ≤ length lent
  pub same : length stored ≡ length lent
  pub put : stored ≡ splice lent 0 (take count stored)

wrong_line : {text : List ℕ} {start first width : ℕ} {stored : List ℕ} → (begins first width (pieces (drop start text)) ≡ true → ⊥) → LineAt text start first width 0 stored
wrong_line {text} {start} {first} {width} never = record {
  wrong = λ z. elim (split (begins first width (pieces (drop start text)))) [ inl e ↦ absurd (never e) | inr e ↦ e ];
  found = λ some. absurd (omega (arith, some));
}

module _ (text : List ℕ) (start first width : ℕ) (lent : List ℕ) (before : start < length text) where
  pub line_letter : (get_or text start 0 ≡ first → ⊥) → LineAt text start first width 0 lent
  line_letter ne = wrong_line (λ e. ne (letter_at text start before first width e))

  module _ (above : 44 < first) (few : width ≤ 9) (room : width ≤ length lent) where
    pub reading_begin : get_or text start 0 ≡ first → start + 1 < length text → Reading text start first width lent lent (start + 1) 0
    reading_begin letter after = record {
      passed = passed_begin text start first width before letter above few after;
      few = omega arith;
      room = room;
      same = refl;
      put = sym (splice_nil lent 0);
    }

    -- a line that has passed its checks
    pub rereading_line : begins first width (pieces (drop start text)) ≡ true → Reading text start first width lent lent (start + 1) 0
    rereading_line e =
        let letter = letter_at text start before first width e in
        let more = comes_inside width (drop (start + 1) text) (sym (letter_comes text start first width before letter above few) ∙ e) in
        reading_begin letter (omega (arith, more, length-drop (start + 1) text))

module _ {text : List ℕ} {start first width : ℕ} {lent stored : List ℕ} {at count : ℕ} (r : Reading text start first width lent stored at count) where
  read_count : length (take count stored) ≡ count
  read_count = length-take-le count stored (omega (arith, r.few, r.room, r.same))

  module _ (less : count < width) where
    still : length (take count stored) < width
    still = omega (arith, read_count, less)

    pub reading_comma : begins first width (pieces (drop start text)) ≡ true → get_or text at 0 ≡ 44
    reading_comma = passed_comma r.passed still

    pub line_comma_missing : (get_or text at 0 ≡ 44 → ⊥) → {stored' : List ℕ} → LineAt text start first width 0 stored'
    line_comma_missing ne = wrong_line (λ e. ne (reading_comma e))

    module _ (comma : get_or text at 0 ≡ 44) where
      pub reading_decimal : begins first width (pieces (drop start text)) ≡ true → is_decimal (field_from (drop (at + 1) text)) ≡ true
      reading_decimal = passed_decimal r.passed still comma

      pub reading_inside : begins first width (pieces (drop start text)) ≡ true → at + 1 + length (field_from (drop (at + 1) text)) < length text
      reading_inside = passed_inside r.passed still comma

      pub line_no_decimal : is_decimal (field_from (drop (at + 1) text)) ≡ false → {stored' : List ℕ} → LineAt text start first width 0 stored'
      line_no_decimal f = wrong_line (λ e. false≢true (sym f ∙ reading_decimal e))

      pub reading_more : (n : Number) → DecimalFound text (at + 1) n → Reading text start first width lent (set stored count n.value) n.end (count + 1)
      reading_more n d =
          let fits : count < length stored = omega (arith, r.room, r.same, less) in
          let taken : take (count + 1) (set stored count n.value) ≡ take count stored ++ (n.value ∷ []) = rw add-one (take-suc-set stored count n.value fits) in
          record {
            passed = rw taken (passed_more r.passed still comma n d);
            few = omega (arith, less);
            room = r.room;
            same = length-set stored count n.value ∙ r.same;
            put =
                ap (λ (l : List ℕ). set l count n.value) r.put
                ∙ put_more lent (take count stored) count n.value (sym read_count) (omega (arith, fits, r.same))
                ∙ ap (splice lent 0) (sym taken);
          }

      pub reading_again : begins first width (pieces (drop start text)) ≡ true → (n : Number) → Reread text (at + 1) n → Reading text start first width lent (set stored count n.value) n.end (count + 1)
      reading_again e n d =
          let over : field_from (drop n.end text) ≡ [] = rw d.behind (behind_at text (at + 1)).field in
          let none = ap length over in
          reading_more n (record {
            forward = omega (arith, d.behind, decimal_some (field_from (drop (at + 1) text)) (reading_decimal e));
            inside = omega (arith, d.behind, reading_inside e);
            whole = omega (arith, d.behind, none);
            decimal = reading_decimal e ∙ sym (eq-eqb (length (field_from (drop n.end text))) 0 none);
            worth = λ z. d.worth;
          })

  module _ (over : width ≤ count) where
    all_read : length (take count stored) ≡ width
    all_read = omega (arith, read_count, r.few, over)

    found_here : get_or text at 0 ≡ 10 → Found text start first width (at + 1) stored
    found_here newline =
        let same : width ≡ count = omega (arith, r.few, over) in
        passed_found r.passed all_read newline (omega (arith, r.room, r.same)) (ap (λ (k : ℕ). take k stored) same)

    pub line_newline_missing : (get_or text at 0 ≡ 10 → ⊥) → LineAt text start first width 0 stored
    line_newline_missing ne = wrong_line (λ e. ne (passed_newline r.passed all_read e))

    pub line_found : get_or text at 0 ≡ 10 → LineAt text start first width (at + 1) stored
    line_found newline = record { wrong = λ z. absurd (omega (arith, z)); found = λ some. found_here newline }

    pub line_again : first ≡ 68 → begins first width (pieces (drop start text)) ≡ true → LineReread text start width lent (at + 1) stored
    line_again d e =
        let same : count ≡ width = omega (arith, r.few, over) in
        record {
          found = rw d at (found_here (passed_newline r.passed all_read e));
          put = rw same at r.put;
        }

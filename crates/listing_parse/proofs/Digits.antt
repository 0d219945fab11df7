-- The ways through `decimal_at` and `reread_decimal`. Assumes nothing.
use Rattle.listing_parse.proofs.Prelude.{ℕ, suc, ◌+◌, ◌-◌, ◌*◌, ◌≤◌, ◌<◌, ◌≡◌, refl, sym, ap, ◌∙◌, ◌⊎◌, inl, inr, true, false, List, [], ◌∷◌, arith, add-one, length, drop, get_or, drop-cons, ltb, eqb, eq-eqb, ne_eqb, eqb-true, ltb-true, ℕ_discrete, and_left, and_right, decimal_parts, Number}
use Rattle.levels_text.specs.Lines.{is_decimal}
use Rattle.levels_text.specs.Laws.Digits.{digit, digit_byte, Digits, wrong_byte, wrong_large, wrong_zero, wrong_empty, decimal_byte, decimal_fits, digits_more, digits_value, digits_end, digits_decimal}
use Rattle.listing_parse.specs.inner.Lines.{ends_line, field_from, DecimalAt, Reread}
use Rattle.listing_parse.proofs.Fields.{field_cases, field_more}

-- ---- the byte at a place

pub ends_some : (text : List ℕ) → ends_line text ≡ true → 0 < length text
unfolding ends_line
ends_some text ends = ltb-true 0 (length text) (and_left (ltb 0 (length text)) (eqb (get_or text (length text - 1) 0) 10) ends)

abbrev pub field_in : List ℕ → ℕ → List ℕ
field_in text at = field_from (drop at text)

module _ (text : List ℕ) (at : ℕ) (inside : at < length text) where
  -- a field ends, or its first byte is there
  field_there : (field_in text at ≡ []) ⊎ (field_in text at ≡ get_or text at 0 ∷ field_in text (at + 1))
  field_there = rw (add-one, drop-cons text at 0 inside) (field_cases (get_or text at 0) (drop (suc at) text))

  field_byte : 48 ≤ get_or text at 0 → field_in text at ≡ get_or text at 0 ∷ field_in text (at + 1)
  field_byte low = rw (add-one, drop-cons text at 0 inside) (field_more (get_or text at 0) (drop (suc at) text) (λ e. omega arith) (λ e. omega arith))

  zero_leads : get_or text at 0 ≡ 48 → get_or (field_in text at) 0 0 ≡ 48
  zero_leads zero = rw (field_byte (omega arith)) zero

  zero_led : get_or (field_in text at) 0 0 ≡ 48 → get_or text at 0 ≡ 48
  zero_led zero =
      elim field_there [
        | inl e ↦ absurd (omega (arith, rw e at zero))
        | inr e ↦ rw e at zero
      ]

  -- the text goes on after a byte that is not its last newline
  pub goes_on : ends_line text ≡ true → (get_or text at 0 ≡ 10 → ⊥) → at + 1 < length text
  unfolding ends_line
  goes_on ends other =
      let last : get_or text (length text - 1) 0 ≡ 10 = eqb-true (get_or text (length text - 1) 0) 10 (and_right (ltb 0 (length text)) (eqb (get_or text (length text - 1) 0) 10) ends) in
      elim (ℕ_discrete at (length text - 1)) [
        | yes e ↦ absurd (other (ap (λ (i : ℕ). get_or text i 0) e ∙ last))
        | no e ↦ omega arith
      ]

-- ---- read and checked

wrong_decimal : {text : List ℕ} {start : ℕ} {n : Number} → n.end ≡ 0 → is_decimal (field_from (drop start text)) ≡ false → DecimalAt text start n
wrong_decimal zero e = record { wrong = λ z. e; found = λ some. absurd (omega arith) }

module _ (text : List ℕ) {start value at : ℕ} (s : Digits (field_in text) start value at) (inside : at < length text) where
  module _ (is : digit (get_or text at 0) ≡ true) where
    pub decimal_digit : (48 ≤ get_or text at 0) × (get_or text at 0 ≤ 57)
    decimal_digit = digit_byte (get_or text at 0) is

    here : field_in text at ≡ get_or text at 0 ∷ field_in text (at + 1)
    here = field_byte text at inside decimal_digit.0

    pub decimal_large : 4294967295 < 10 * value + (get_or text at 0 - 48) → {n : Number} → n.end ≡ 0 → DecimalAt text start n
    decimal_large large zero = wrong_decimal zero (wrong_large s here large)

    pub decimal_more : ends_line text ≡ true → 10 * value + (get_or text at 0 - 48) ≤ 4294967295
        → Digits (field_in text) start (10 * value + (get_or text at 0 - 48)) (at + 1) × (at + 1 < length text)
    decimal_more ends fits = (digits_more s here is fits, goes_on text at inside ends (λ e. omega (arith, e, decimal_digit.0)))

  module _ (over : digit (get_or text at 0) ≡ false) where
    pub decimal_empty : at ≡ start → {n : Number} → n.end ≡ 0 → DecimalAt text start n
    decimal_empty e zero =
        wrong_decimal zero (elim (field_there text at inside) [ inl f ↦ wrong_empty s f e | inr f ↦ wrong_byte s f over ])

    module _ (some : at ≡ start → ⊥) where
      before : start < length text
      before = omega (arith, s.begun, inside)

      pub decimal_zero : get_or text start 0 ≡ 48 → start + 1 < at → {n : Number} → n.end ≡ 0 → DecimalAt text start n
      decimal_zero zero long none = wrong_decimal none (wrong_zero s (zero_leads text start before zero) long)

      pub decimal_read : (get_or text start 0 ≡ 48 → at ≤ start + 1) → DecimalAt text start (record { value = value; end = at })
      decimal_read one = record {
        wrong = λ z. absurd (omega (arith, z, s.begun, some));
        found = λ h. record {
          forward = omega (arith, s.begun, some);
          inside = inside;
          whole = s.long;
          decimal =
              elim (field_there text at inside) [
                | inl e ↦ digits_decimal s e some (λ zero. one (zero_led text start before zero)) ∙ sym (eq-eqb (length (field_in text at)) 0 (ap length e))
                | inr e ↦ wrong_byte s e over ∙ sym (ne_eqb (length (field_in text at)) 0 (λ z. omega (arith, z, ap length e)))
              ];
          worth = λ none. digits_value s (no_bytes (field_in text at) none);
        };
      }
        where
          no_bytes : (bytes : List ℕ) → length bytes ≡ 0 → bytes ≡ []
          no_bytes [] e = refl
          no_bytes (byte ∷ bytes) e = absurd (omega (arith, e))

-- ---- read again

module _ (text : List ℕ) {start value at : ℕ} (s : Digits (field_in text) start value at) (good : is_decimal (field_in text start) ≡ true)
    (inside : start + length (field_in text start) < length text) where
  pub reread_inside : at < length text
  reread_inside = omega (arith, inside, s.long)

  module _ (low : 48 ≤ get_or text at 0) where
    here_again : field_in text at ≡ get_or text at 0 ∷ field_in text (at + 1)
    here_again = field_byte text at reread_inside low

    pub reread_small : 10 * value + (get_or text at 0 - 48) ≤ 4294967295
    reread_small = decimal_fits s here_again (decimal_parts (field_in text start) good).fits

    pub reread_more : Digits (field_in text) start (10 * value + (get_or text at 0 - 48)) (at + 1)
    reread_more = digits_more s here_again (decimal_byte s here_again (decimal_parts (field_in text start) good).digits) reread_small

  pub reread_end : get_or text at 0 < 48 → Reread text start (record { value = value; end = at })
  reread_end high = record { worth = digits_value s over; behind = digits_end s over }
    where
      over : field_in text at ≡ []
      over =
          elim (field_there text at reread_inside) [
            | inl e ↦ e
            | inr e ↦ absurd (omega (arith, high, (digit_byte (get_or text at 0) (decimal_byte s e (decimal_parts (field_in text start) good).digits)).0))
          ]

-- A decimal, digit by digit: what is to come of a field from a place on is what was to come from its start. `field at` is the field
-- that begins at an offset. Assumes nothing.
use Rattle.std.specs.Prelude.{◌+◌, ◌-◌, ◌*◌, ◌≤◌, ◌<◌, ◌≡◌, ◌&&◌, ◌||◌, ◌∷◌}
use Rattle.levels_text.specs.Laws.Prelude.{ℕ, refl, sym, ap, ◌∙◌, inl, inr, Bool, true, false, not, or-true, and-false, false≢true, List, [], arith, leb, ltb, eqb, length, get_or, eq-eqb, ne_eqb, le-leb, lt-leb, lt-ltb, leb-true, eqb-false, split, and_left, and_right, all_head}
use Rattle.lists.specs.Lists.{all}
use Rattle.levels_text.specs.Lines.{value_from, is_decimal}

abbrev pub digit : ℕ → Bool
digit byte = leb 48 byte && leb byte 57

pub digit_byte : (byte : ℕ) → digit byte ≡ true → (48 ≤ byte) × (byte ≤ 57)
digit_byte byte h = (leb-true 48 byte (and_left (leb 48 byte) (leb byte 57) h), leb-true byte 57 (and_right (leb 48 byte) (leb byte 57) h))

pub below_digits : (byte : ℕ) → byte < 48 → digit byte ≡ false
below_digits byte h = rw (lt-leb 48 byte h)

pub above_digits : (byte : ℕ) → 57 < byte → digit byte ≡ false
above_digits byte h = rw (lt-leb byte 57 h, and-false (leb 48 byte))

pub is_digit : (byte : ℕ) → 48 ≤ byte → byte ≤ 57 → digit byte ≡ true
is_digit byte low high = rw (le-leb 48 byte low, le-leb byte 57 high)

-- more digits do not make the value smaller
pub value_least : (v : ℕ) (bytes : List ℕ) → v ≤ value_from v bytes
unfolding value_from
value_least v [] = omega arith
value_least v (byte ∷ bytes) = let h = value_least (10 * v + (byte - 48)) bytes in omega arith

-- ---- which fields are decimals

module _ (bytes : List ℕ) where
  not_digits : all digit bytes ≡ false → is_decimal bytes ≡ false
  unfolding is_decimal
  not_digits e = rw e

  too_large : 4294967295 < value_from 0 bytes → is_decimal bytes ≡ false
  unfolding is_decimal
  too_large h = rw (lt-leb (value_from 0 bytes) 4294967295 h, and-false (all digit bytes && ltb 0 (length bytes) && (eqb (length bytes) 1 || not (eqb (get_or bytes 0 0) 48))))

  pub leading_zero : 1 < length bytes → get_or bytes 0 0 ≡ 48 → is_decimal bytes ≡ false
  unfolding is_decimal
  leading_zero long zero =
      let many : length bytes ≡ 1 → ⊥ = λ e. omega arith in
      rw (ne_eqb (length bytes) 1 many, eq-eqb (get_or bytes 0 0) 48 zero, and-false (all digit bytes && ltb 0 (length bytes)))

  is_decimal_lem : all digit bytes ≡ true → 0 < length bytes → (1 < length bytes → get_or bytes 0 0 ≡ 48 → ⊥) → value_from 0 bytes ≤ 4294967295 → is_decimal bytes ≡ true
  unfolding is_decimal
  is_decimal_lem digits some first fits =
      elim (split (eqb (length bytes) 1)) [
        | inl e ↦ rw (digits, lt-ltb 0 (length bytes) some, e, le-leb (value_from 0 bytes) 4294967295 fits)
        | inr e ↦
            let many : 1 < length bytes = omega (arith, some, eqb-false (length bytes) 1 e) in
            rw (digits, lt-ltb 0 (length bytes) some, ne_eqb (get_or bytes 0 0) 48 (first many), or-true (eqb (length bytes) 1), le-leb (value_from 0 bytes) 4294967295 fits)
      ]

-- a decimal has a digit
pub decimal_some : (bytes : List ℕ) → is_decimal bytes ≡ true → 0 < length bytes
decimal_some [] e = absurd (false≢true (unfold is_decimal all in e))
decimal_some (byte ∷ bytes) e = omega arith

-- ---- a field, digit by digit

-- `value` is that of the digits from `start` up to `at`
pub record Digits (field : ℕ → List ℕ) (start value at : ℕ) : Type 0 where
  pub begun : start ≤ at
  pub small : value ≤ 4294967295
  pub digits : all digit (field start) ≡ all digit (field at)
  pub worth : value_from 0 (field start) ≡ value_from value (field at)
  pub long : start + length (field start) ≡ at + length (field at)

pub digits_begin : (field : ℕ → List ℕ) (start : ℕ) → Digits field start 0 start
digits_begin field start = record { begun = omega arith; small = omega arith; digits = refl; worth = refl; long = refl }

module _ {field : ℕ → List ℕ} {start value at : ℕ} (s : Digits field start value at) where
  module _ {byte : ℕ} {rest : List ℕ} (here : field at ≡ byte ∷ rest) where
    pub wrong_byte : digit byte ≡ false → is_decimal (field start) ≡ false
    wrong_byte e = not_digits (field start) (s.digits ∙ ap (all digit) here ∙ unfold all in rw e)

    -- the bytes of a decimal are digits
    pub decimal_byte : all digit (field start) ≡ true → digit byte ≡ true
    decimal_byte e = all_head digit byte rest (sym (s.digits ∙ ap (all digit) here) ∙ e)

  module _ {byte : ℕ} (here : field at ≡ byte ∷ field (at + 1)) where
    worth_more : value_from 0 (field start) ≡ value_from (10 * value + (byte - 48)) (field (at + 1))
    worth_more = s.worth ∙ ap (value_from value) here ∙ unfold value_from in refl

    value_more : 10 * value + (byte - 48) ≤ value_from 0 (field start)
    value_more = omega (arith, worth_more, value_least (10 * value + (byte - 48)) (field (at + 1)))

    pub wrong_large : 4294967295 < 10 * value + (byte - 48) → is_decimal (field start) ≡ false
    wrong_large large = too_large (field start) (omega (arith, large, value_more))

    pub decimal_fits : value_from 0 (field start) ≤ 4294967295 → 10 * value + (byte - 48) ≤ 4294967295
    decimal_fits fits = omega (arith, fits, value_more)

    pub digits_more : digit byte ≡ true → 10 * value + (byte - 48) ≤ 4294967295 → Digits field start (10 * value + (byte - 48)) (at + 1)
    digits_more is fits = record {
      begun = omega (arith, s.begun);
      small = fits;
      digits = s.digits ∙ ap (all digit) here ∙ unfold all in rw is;
      worth = worth_more;
      long = omega (arith, s.long, ap length here);
    }

  -- a zero and further digits
  pub wrong_zero : get_or (field start) 0 0 ≡ 48 → start + 1 < at → is_decimal (field start) ≡ false
  wrong_zero zero long = leading_zero (field start) (omega (arith, long, s.long)) zero

  -- the field ends
  module _ (ended : field at ≡ []) where
    pub wrong_empty : at ≡ start → is_decimal (field start) ≡ false
    wrong_empty e = rw (← e, ended) (unfold is_decimal all in refl)

    pub digits_value : value ≡ value_from 0 (field start)
    digits_value = sym (s.worth ∙ rw ended (unfold value_from in refl))

    pub digits_end : at ≡ start + length (field start)
    digits_end = omega (arith, s.long, ap length ended)

    pub digits_decimal : (at ≡ start → ⊥) → (get_or (field start) 0 0 ≡ 48 → at ≤ start + 1) → is_decimal (field start) ≡ true
    digits_decimal some one =
        is_decimal_lem (field start) (s.digits ∙ rw ended (unfold all in refl)) (omega (arith, digits_end, some, s.begun))
        (λ two zero. omega (arith, two, digits_end, one zero))
        (rw (← digits_value) s.small)

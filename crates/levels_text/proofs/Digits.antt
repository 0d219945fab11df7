-- The ways through `decimal`. Assumes nothing.
use Rattle.levels_text.proofs.Prelude.{ℕ, ◌+◌, ◌-◌, ◌*◌, ◌≤◌, ◌<◌, ◌≡◌, arith, refl, inl, inr, split, leb, leb-true, leb-false, length, drop, get_or, List, [], ◌∷◌, add-one, drop-cons, drop_of_length-le, None, Some}
use Rattle.lists.specs.Lists.{all}
use Rattle.levels_text.specs.Lines.{is_decimal}
use Rattle.levels_text.specs.inner.Reading.{decimal_of}
use Rattle.levels_text.specs.Laws.Digits.{below_digits, above_digits, is_digit, Digits, wrong_byte, wrong_large, leading_zero, digits_begin, digits_more, digits_value, digits_decimal}

pub no_digit : (field : List ℕ) → length field ≡ 0 → decimal_of field ≡ None
no_digit [] e = unfold is_decimal all in refl
no_digit (byte ∷ bytes) e = absurd (omega arith)

pub zero_led : (field : List ℕ) → 1 < length field → get_or field 0 0 ≡ 48 → decimal_of field ≡ None
zero_led field long zero = rw (leading_zero field long zero)

-- the digits of a field up to a place have this value
abbrev pub Read : List ℕ → ℕ → ℕ → Type 0
Read field value at = Digits (λ (n : ℕ). drop n field) 0 value at

pub value_begin : (field : List ℕ) → Read field 0 0
value_begin field = digits_begin (λ (n : ℕ). drop n field) 0

module _ {field : List ℕ} {value at : ℕ} (s : Read field value at) where
  module _ (inside : at < length field) where
    here : drop at field ≡ get_or field at 0 ∷ drop (at + 1) field
    here = rw (add-one) (drop-cons field at 0 inside)

    pub byte_below : get_or field at 0 < 48 → decimal_of field ≡ None
    byte_below h = rw (wrong_byte s here (below_digits (get_or field at 0) h))

    pub byte_above : 57 < get_or field at 0 → decimal_of field ≡ None
    byte_above h = rw (wrong_byte s here (above_digits (get_or field at 0) h))

    pub value_large : 4294967295 < 10 * value + (get_or field at 0 - 48) → decimal_of field ≡ None
    value_large h = rw (wrong_large s here h)

    pub value_more : 48 ≤ get_or field at 0 → get_or field at 0 ≤ 57 → 10 * value + (get_or field at 0 - 48) ≤ 4294967295
        → Read field (10 * value + (get_or field at 0 - 48)) (at + 1)
    value_more low high = digits_more s here (is_digit (get_or field at 0) low high)

  pub value_read : length field ≤ at → at ≤ length field → 0 < length field → (1 < length field → get_or field 0 0 ≡ 48 → ⊥) → decimal_of field ≡ Some value
  value_read over within some led =
      let short : get_or field 0 0 ≡ 48 → at ≤ 1 = λ zero. elim (split (leb at 1)) [ inl y ↦ leb-true at 1 y | inr n ↦ let long : 1 < length field = (let m = leb-false at 1 n in omega arith) in absurd (led long zero) ] in
      let one : get_or field 0 0 ≡ 48 → at ≤ 0 + 1 = λ zero. short zero in
      let ended : drop at field ≡ [] = drop_of_length-le field over in
      rw (digits_decimal s ended (λ e. omega arith) one, ← digits_value s ended)

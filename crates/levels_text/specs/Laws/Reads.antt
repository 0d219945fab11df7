-- A decimal that is written is read back: `levels` reads it, and its value is the number. Assumes nothing.
use Rattle.std.specs.Prelude.{◌+◌, ◌-◌, ◌*◌, ◌/◌, ◌%◌, ◌^◌, ◌≤◌, ◌<◌, ◌≡◌, ◌&&◌, ◌||◌, ◌∷◌, ◌++◌}
use Rattle.levels_text.specs.Laws.Prelude.{ℕ, zero, suc, refl, inl, inr, Bool, true, not, or-true, false≢true, List, [], pow-succ', mod-lt, arith, leb, ltb, eqb, length, get_or, length-append, List·getD-append, ne_eqb, le-leb, lt-ltb, ltb-true, ltb-false, split}
use Rattle.lists.specs.Lists.{all}
use Rattle.levels_text.specs.Lines.{value_from, is_decimal}
use Rattle.levels_text.specs.Written.{digits_in, decimal}

-- the value of digits, by their last one

value_last : (v : ℕ) (digits : List ℕ) (d : ℕ) → value_from v (digits ++ (d ∷ [])) ≡ 10 * value_from v digits + (d - 48)
unfolding value_from
value_last v [] d = refl
value_last v (x ∷ digits) d = value_last (10 * v + (x - 48)) digits d

abbrev digit : ℕ → Bool
digit byte = leb 48 byte && leb byte 57

all_last : (digits : List ℕ) (d : ℕ) → all digit digits ≡ true → digit d ≡ true → all digit (digits ++ (d ∷ [])) ≡ true
unfolding all
all_last [] d e f = rw f
all_last (x ∷ digits) d e f =
    elim (split (digit x)) [
      | inl y ↦ rw y (all_last digits d (rw y at e) f)
      | inr n ↦ absurd (false≢true (rw n at e))
    ]

digit_of : (d : ℕ) → d < 10 → digit (48 + d) ≡ true
digit_of d h =
    let low : 48 ≤ 48 + d = omega arith in
    let high : 48 + d ≤ 57 = omega arith in
    rw (le-leb 48 (48 + d) low, le-leb (48 + d) 57 high)

-- of at most this many places

all_digits : (places n : ℕ) → all digit (digits_in places n) ≡ true
unfolding digits_in all
all_digits zero n = refl
all_digits (suc places) n =
    elim (split (ltb n 10)) [
      | inl e ↦ rw (e, digit_of n (ltb-true n 10 e))
      | inr e ↦ rw e (all_last (digits_in places (n / 10)) (48 + n % 10) (all_digits places (n / 10)) (digit_of (n % 10) (mod-lt n (omega arith))))
    ]

value_digits : (places n : ℕ) → n < 10 ^ places → value_from 0 (digits_in places n) ≡ n
unfolding digits_in value_from
value_digits zero n h = omega arith
value_digits (suc places) n h =
    elim (split (ltb n 10)) [
      | inl e ↦ rw e (omega arith)
      | inr e ↦
          let fewer : n < 10 * 10 ^ places = rw (pow-succ' 10 places) at h in
          let ih = value_digits places (n / 10) (omega arith) in
          rw (e, value_last 0 (digits_in places (n / 10)) (48 + n % 10), ih) (omega arith)
    ]

some_digit : (places n : ℕ) → 0 < places → 0 < length (digits_in places n)
unfolding digits_in
some_digit zero n h = absurd (omega arith)
some_digit (suc places) n h =
    elim (split (ltb n 10)) [
      | inl e ↦ rw e (omega arith)
      | inr e ↦ rw e (omega (arith, length-append (digits_in places (n / 10)) ((48 + n % 10) ∷ [])))
    ]

first_digit : (places n : ℕ) → 0 < n → n < 10 ^ places → get_or (digits_in places n) 0 0 ≡ 48 → ⊥
unfolding digits_in
first_digit zero n some h = λ z. absurd (omega arith)
first_digit (suc places) n some h =
    elim (split (ltb n 10)) [
      | inl e ↦ rw e (λ z. omega arith)
      | inr e ↦
          let big : 10 ≤ n = ltb-false n 10 e in
          let fewer : n < 10 * 10 ^ places = rw (pow-succ' 10 places) at h in
          let less : n / 10 < 10 ^ places = omega arith in
          let there : 0 < places = places_some places (n / 10) (omega arith) less in
          rw (e, List·getD-append (digits_in places (n / 10)) ((48 + n % 10) ∷ []) 0 0 (some_digit places (n / 10) there)) (first_digit places (n / 10) (omega arith) less)
    ]
  where
    places_some : (places m : ℕ) → 0 < m → m < 10 ^ places → 0 < places
    places_some zero m some h = absurd (omega arith)
    places_some (suc places) m some h = omega arith

-- "decimals up to 4294967295 without leading zeros"

pub decimal_value : (n : ℕ) → n ≤ 4294967295 → value_from 0 (decimal n) ≡ n
unfolding decimal
decimal_value n fits = value_digits 10 n (omega arith)

zero_short : length (decimal 0) ≡ 1
unfolding decimal digits_in
zero_short = refl

pub decimal_read : (n : ℕ) → n ≤ 4294967295 → is_decimal (decimal n) ≡ true
unfolding is_decimal
decimal_read n fits =
    rw (all_hold n, lt-ltb 0 (length (decimal n)) (some n), no_zero n fits, decimal_value n fits, le-leb n 4294967295 fits)
  where
    all_hold : (n : ℕ) → all digit (decimal n) ≡ true
    all_hold n = unfold decimal in all_digits 10 n

    some : (n : ℕ) → 0 < length (decimal n)
    some n = unfold decimal in some_digit 10 n (omega arith)

    no_zero : (n : ℕ) → n ≤ 4294967295 → (eqb (length (decimal n)) 1 || not (eqb (get_or (decimal n) 0 0) 48)) ≡ true
    no_zero zero fits = rw zero_short
    no_zero (suc n) fits =
        let first : get_or (decimal (suc n)) 0 0 ≡ 48 → ⊥ = unfold decimal in first_digit 10 (suc n) (omega arith) (omega arith) in
        rw (ne_eqb (get_or (decimal (suc n)) 0 0) 48 first) (or-true (eqb (length (decimal (suc n))) 1))

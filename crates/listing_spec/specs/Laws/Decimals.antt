-- A decimal that `levels` reads is the written form of its value. Assumes nothing.
use Rattle.std.specs.Prelude.{◌+◌, ◌-◌, ◌*◌, ◌/◌, ◌%◌, ◌^◌, ◌≤◌, ◌<◌, ◌≡◌, ◌&&◌, ◌||◌, ◌∷◌, ◌++◌}
use Rattle.listing_spec.specs.Laws.Prelude.{ℕ, zero, suc, refl, sym, ap, ◌∙◌, true, not, false≢true, List, [], append-nil, append_assoc, zero-add, pow-succ', arith, leb, ltb, eqb, length, get_or, ne_eqb, le-ltb, lt-ltb, leb-true, all_head, all_tail, and_left, and_right, digit, digit_byte}
use Rattle.lists.specs.Lists.{all}
use Rattle.levels_text.specs.Lines.{value_from, is_decimal}
use Rattle.levels_text.specs.Written.{digits_in, decimal}

-- one more digit after a number that is not 0
digits_more : (places v d : ℕ) → digit d ≡ true → 0 < v → digits_in (suc places) (10 * v + (d - 48)) ≡ digits_in places v ++ (d ∷ [])
unfolding digits_in
digits_more places v d h some =
    let byte = digit_byte d h in
    let big : 10 ≤ 10 * v + (d - 48) = omega arith in
    let front : (10 * v + (d - 48)) / 10 ≡ v = omega arith in
    let last : 48 + (10 * v + (d - 48)) % 10 ≡ d = omega arith in
    rw (le-ltb (10 * v + (d - 48)) 10 big, front, last)

module _ (d : ℕ) (ds : List ℕ) (h : all digit (d ∷ ds) ≡ true) where
  digit_first : digit d ≡ true
  digit_first = all_head digit d ds h

  digits_rest : all digit ds ≡ true
  digits_rest = all_tail digit d ds h

digits_behind : (places v : ℕ) (ds : List ℕ) → all digit ds ≡ true → 0 < v → digits_in (length ds + places) (value_from v ds) ≡ digits_in places v ++ ds
unfolding value_from
digits_behind places v [] h some = rw (zero-add places) (sym (append-nil (digits_in places v)))
digits_behind places v (d ∷ ds) h some =
    let v' = 10 * v + (d - 48) in
    let more : suc (length ds) + places ≡ length ds + suc places = omega arith in
    rw more (digits_behind (suc places) v' ds (digits_rest d ds h) (omega arith))
    ∙ ap (λ (l : List ℕ). l ++ ds) (digits_more places v d (digit_first d ds h) some)
    ∙ append_assoc (digits_in places v) (d ∷ []) ds

-- a number of this many digits is below that power of ten
value_below : (places v : ℕ) (ds : List ℕ) → all digit ds ≡ true → v < 10 ^ places → value_from v ds < 10 ^ (length ds + places)
unfolding value_from
value_below places v [] h below = rw (zero-add places) below
value_below places v (d ∷ ds) h below =
    let byte = digit_byte d (digit_first d ds h) in
    let more : suc (length ds) + places ≡ length ds + suc places = omega arith in
    let next : 10 * v + (d - 48) < 10 ^ suc places = rw (pow-succ' 10 places) (omega arith) in
    rw more (value_below (suc places) (10 * v + (d - 48)) ds (digits_rest d ds h) next)

-- if there are enough places, their number does not matter
places_enough : (p q n : ℕ) → n < 10 ^ suc p → n < 10 ^ suc q → digits_in (suc p) n ≡ digits_in (suc q) n
unfolding digits_in
places_enough zero zero n a b = refl
places_enough zero (suc q) n a b = let small : n < 10 = a in rw (lt-ltb n 10 small)
places_enough (suc p) zero n a b = let small : n < 10 = b in rw (lt-ltb n 10 small)
places_enough (suc p) (suc q) n a b =
    let a' : n < 10 * 10 ^ suc p = rw (pow-succ' 10 (suc p)) at a in
    let b' : n < 10 * 10 ^ suc q = rw (pow-succ' 10 (suc q)) at b in
    rw (places_enough p q (n / 10) (omega arith) (omega arith))

one_digit : (places d : ℕ) → digit d ≡ true → digits_in (suc places) (d - 48) ≡ d ∷ []
unfolding digits_in
one_digit places d h =
    let byte = digit_byte d h in
    let small : d - 48 < 10 = omega arith in
    let back : 48 + (d - 48) ≡ d = omega arith in
    rw (lt-ltb (d - 48) 10 small, back)

pub record Decimal (field : List ℕ) : Type 0 where
  pub digits : all digit field ≡ true
  pub no_zero : (eqb (length field) 1 || not (eqb (get_or field 0 0) 48)) ≡ true
  pub fits : value_from 0 field ≤ 4294967295

pub decimal_parts : (field : List ℕ) → is_decimal field ≡ true → Decimal field
unfolding is_decimal
decimal_parts field e =
    let all_hold = all digit field in
    let some = ltb 0 (length field) in
    let prefix_width = eqb (length field) 1 || not (eqb (get_or field 0 0) 48) in
    let fit = leb (value_from 0 field) 4294967295 in
    let e₁ = and_left (all_hold && some && prefix_width) fit e in
    record {
      digits = and_left all_hold some (and_left (all_hold && some) prefix_width e₁);
      no_zero = and_right (all_hold && some) prefix_width e₁;
      fits = leb-true (value_from 0 field) 4294967295 (and_right (all_hold && some && prefix_width) fit e);
    }

value_first : (d : ℕ) (ds : List ℕ) → value_from 0 (d ∷ ds) ≡ value_from (d - 48) ds
unfolding value_from
value_first d ds = let v : 10 * 0 + (d - 48) ≡ d - 48 = omega arith in rw v

value_none : (v : ℕ) → value_from v [] ≡ v
unfolding value_from
value_none v = refl

pub decimal_back : (field : List ℕ) → is_decimal field ≡ true → decimal (value_from 0 field) ≡ field
unfolding decimal
decimal_back [] e = absurd (false≢true (unfold is_decimal all in e))
decimal_back (d ∷ []) e = rw (value_first d [], value_none (d - 48)) (one_digit 9 d (digit_first d [] (decimal_parts (d ∷ []) e).digits))
decimal_back (d ∷ x ∷ ds) e =
    let p = decimal_parts (d ∷ x ∷ ds) e in
    let first = digit_first d (x ∷ ds) p.digits in
    let byte = digit_byte d first in
    let leads : d ≡ 48 → ⊥ = λ z. false≢true (rw (ne_eqb (length (d ∷ x ∷ ds)) 1 (λ e. omega arith), z) at p.no_zero) in
    let many : length (x ∷ ds) + 1 ≡ suc (suc (length ds)) = omega arith in
    let below : value_from (d - 48) (x ∷ ds) < 10 ^ suc (suc (length ds)) = rw many at (value_below 1 (d - 48) (x ∷ ds) (digits_rest d (x ∷ ds) p.digits) (omega arith)) in
    let fits : value_from (d - 48) (x ∷ ds) < 10 ^ 10 = omega (arith, p.fits, value_first d (x ∷ ds)) in
    rw (value_first d (x ∷ ds))
    (places_enough 9 (suc (length ds)) (value_from (d - 48) (x ∷ ds)) fits below
    ∙ rw many at (digits_behind 1 (d - 48) (x ∷ ds) (digits_rest d (x ∷ ds) p.digits) (omega arith))
    ∙ ap (λ (l : List ℕ). l ++ (x ∷ ds)) (one_digit 0 d first))

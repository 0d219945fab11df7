-- `io::decimal` gives the digits that the definition gives. Assumes nothing.
use Rattle.std.specs.Prelude.{◌+◌, ◌-◌, ◌*◌, ◌/◌, ◌%◌, ◌^◌, ◌≤◌, ◌<◌, ◌≡◌, ◌∷◌, ◌++◌}
use Rattle.levels_text.specs.Laws.Prelude.{ℕ, zero, suc, ap, ◌∙◌, inl, inr, List, [], map, map-append, append-nil, pow-succ', one-le-pow, pow-le-pow_right, mod-lt, mod-eq_of_lt, arith, length, take, get_or, length-append, leb, ltb, lt-ltb, le-ltb, leb-true, leb-false, split, flatten_append, digits, glyph, Fewest}
use Rattle.lists.specs.Lists.{flatten}
use Rattle.levels_text.specs.Written.{digits_in, decimal, field, text_line}

-- a digit
glyph_digit : (d : ℕ) → d < 10 → glyph d ≡ 48 + d
glyph_digit d h = rw (lt-ltb d 10 h)

-- the quotient by ten
quotient_below : (n m : ℕ) → n < 10 * m → n / 10 < m
quotient_below n m h = omega arith

quotient_above : (n m : ℕ) → 10 * m ≤ n → m ≤ n / 10
quotient_above n m h = omega arith

digits_same : (count places n : ℕ) → count < places → n < 10 ^ suc count → (0 < count → 10 ^ count ≤ n) → digits 10 (suc count) n ≡ digits_in places n
unfolding digits_in
digits_same count zero n less below above = absurd (omega arith)
digits_same zero (suc places) n less below above =
    let small : n < 10 = below in
    rw (lt-ltb n 10 small, mod-eq_of_lt small, glyph_digit n small)
digits_same (suc count) (suc places) n less below above =
    let some : 10 * 10 ^ count ≤ n = rw (pow-succ' 10 count) at (above (omega arith)) in
    let pos : 1 ≤ 10 ^ count = one-le-pow count 10 (omega arith) in
    let big : 10 ≤ n = omega arith in
    let fewer : n < 10 * 10 ^ suc count = rw (pow-succ' 10 (suc count)) at below in
    let ih = digits_same count places (n / 10) (omega arith) (quotient_below n (10 ^ suc count) fewer) (λ h. quotient_above n (10 ^ count) some) in
    rw (le-ltb n 10 big, glyph_digit (n % 10) (mod-lt n (omega arith)), ih)

-- a u32 has at most ten digits
pub few_digits : (count n : ℕ) → n ≤ 4294967295 → Fewest 10 1 n count → count ≤ 10
few_digits count n fits f =
    elim (split (leb count 10)) [
      | inl t ↦ leb-true count 10 t
      | inr over' ↦
          let over : 10 < count = leb-false count 10 over' in
          let least : 10 ^ 10 ≤ 10 ^ (count - 1) = pow-le-pow_right {n = 10} (omega arith) {i = 10} {j = count - 1} (omega arith) in
          let most : 10 ^ (count - 1) ≤ n = f.2 (omega arith) in
          absurd (omega arith)
    ]

pub decimal_digits : (count n : ℕ) → n ≤ 4294967295 → Fewest 10 1 n count → digits 10 count n ≡ decimal n
unfolding decimal
decimal_digits zero n fits f = absurd (omega arith)
decimal_digits (suc count) n fits f =
    let one_less : suc count - 1 ≡ count = omega arith in
    digits_same count 10 n (omega (arith, few_digits (suc count) n fits f)) f.1 (λ h. rw one_less at (f.2 (omega arith)))

-- how many bytes a number takes as a field after others
length_digits : (places n : ℕ) → length (digits_in places n) ≤ places
unfolding digits_in
length_digits zero n = omega arith
length_digits (suc places) n =
    elim (split (ltb n 10)) [
      | inl e ↦ rw e (omega arith)
      | inr e ↦ rw e (omega (arith, length-append (digits_in places (n / 10)) ((48 + n % 10) ∷ []), length_digits places (n / 10)))
    ]

pub length_field : (n : ℕ) → length (field n) ≤ 11
unfolding field decimal
length_field n = omega (arith, length_digits 10 n)

-- exactly its digits and the comma
pub field_length : {n count : ℕ} {shown : List ℕ} → n ≤ 4294967295 → Fewest 10 1 n count → shown ≡ digits 10 count n → length (field n) ≡ 1 + length shown
unfolding field
field_length {n} {count} fits f e = let same = ap length (e ∙ decimal_digits count n fits f) in omega (arith, same)

pub field_some : (n : ℕ) → 1 ≤ length (field n)
unfolding field
field_some n = omega arith

-- one number more
pub fields_more : (numbers : List ℕ) (n : ℕ) → flatten (map field (numbers ++ (n ∷ []))) ≡ flatten (map field numbers) ++ field n
unfolding flatten
fields_more numbers n = rw (map-append field numbers (n ∷ []), flatten_append (map field numbers) (field n ∷ []), append-nil (field n))

-- the first fields and the next one take no more bytes than all fields
pub fields_front : (numbers : List ℕ) (i : ℕ) → i < length numbers → length (flatten (map field (take i numbers))) + length (field (get_or numbers i 0)) ≤ length (flatten (map field numbers))
unfolding flatten
fields_front [] i less = absurd (omega arith)
fields_front (n ∷ numbers) zero less = omega (arith, length-append (field n) (flatten (map field numbers)))
fields_front (n ∷ numbers) (suc i) less =
    omega (arith, length-append (field n) (flatten (map field numbers)), length-append (field n) (flatten (map field (take i numbers))), fields_front numbers i (omega arith))

pub length_fields : (numbers : List ℕ) → length (flatten (map field numbers)) ≤ 11 * length numbers
unfolding flatten
length_fields [] = omega arith
length_fields (n ∷ numbers) =
    omega (arith, length-append (field n) (flatten (map field numbers)), length_field n, length_fields numbers)

pub length_line : (letter : ℕ) (numbers : List ℕ) → length (text_line letter numbers) ≡ length (flatten (map field numbers)) + 2
unfolding text_line
length_line letter numbers = omega (arith, length-append (flatten (map field numbers)) (10 ∷ []))

pub length_numbered : (letter number : ℕ) (numbers : List ℕ) → length (text_line letter (number ∷ numbers)) ≡ length (field number) + length (flatten (map field numbers)) + 2
unfolding flatten
length_numbered letter number numbers = omega (arith, length_line letter (number ∷ numbers), length-append (field number) (flatten (map field numbers)))

pub length_written : (letter : ℕ) (numbers : List ℕ) → length (text_line letter numbers) ≤ 11 * length numbers + 2
unfolding text_line
length_written letter numbers = omega (arith, length_line letter numbers, length_fields numbers)

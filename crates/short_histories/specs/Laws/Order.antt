-- Positions are in document 02's order. Assumes nothing.
use Rattle.std.specs.Prelude.{◌+◌, ◌*◌, ◌≤◌, ◌<◌, ◌≡◌, ◌&&◌, ◌||◌, ◌∷◌}
use Rattle.short_histories.specs.Laws.Prelude.{ℕ, suc, refl, sym, ap, ap₂, ◌∙◌, Bool, true, false, List, [], dec_lt, arith, ltb, eqb, length, lt-ltb, le-ltb, eq-eqb, ne_eqb, all_tail, row_in, position_of, known}
use Rattle.short_histories.specs.Laws.Numbers.{Steps, many, shorter, value, number, value_below, shorter_rises}
use Rattle.short_histories.specs.Laws.Positions.{known_steps, position_number}

-- the first differing step of two sequences of one length is smaller in the first sequence
unfoldable pub first_less : List ℕ → List ℕ → Bool
first_less [] t = false
first_less (x ∷ xs) [] = false
first_less (x ∷ xs) (y ∷ ys) = ltb x y || (eqb x y && first_less xs ys)

-- "shorter before longer, equal lengths in the order of their first differing step"
unfoldable pub before : List ℕ → List ℕ → Bool
before s t = ltb (length s) (length t) || (eqb (length s) (length t) && first_less s t)

-- two numbers of two digits in base m; the first may have any size
digits_order : (x y m v w : ℕ) → v < m → w < m → (ltb x y || (eqb x y && ltb v w)) ≡ ltb (x * m + v) (y * m + w)
digits_order x y m v w h k =
    elim (dec_lt x y) [
      | yes a ↦ let r = row_in x y m a in rw (lt-ltb x y a, lt-ltb (x * m + v) (y * m + w) (omega arith))
      | no a ↦ elim (dec_lt y x) [
        | yes b ↦ let r = row_in y x m b in rw (le-ltb x y (omega arith), ne_eqb x y (λ e. omega arith), le-ltb (x * m + v) (y * m + w) (omega arith))
        | no b ↦ same_first (omega arith)
      ]
    ]
  where
    same_first : x ≡ y → (ltb x y || (eqb x y && ltb v w)) ≡ ltb (x * m + v) (y * m + w)
    same_first e =
        let p : x * m ≡ y * m = ap (λ (k : ℕ). k * m) e in
        elim (dec_lt v w) [
          | yes c ↦ rw (le-ltb x y (omega arith), eq-eqb x y e, lt-ltb v w c, lt-ltb (x * m + v) (y * m + w) (omega arith))
          | no c ↦ rw (le-ltb x y (omega arith), eq-eqb x y e, le-ltb v w (omega arith), le-ltb (x * m + v) (y * m + w) (omega arith))
        ]

value_order : (s t : List ℕ) → Steps s → Steps t → length s ≡ length t → first_less s t ≡ ltb (value s) (value t)
unfolding first_less value
value_order [] [] e f l = refl
value_order [] (y ∷ ys) e f l = absurd (omega arith)
value_order (x ∷ xs) [] e f l = absurd (omega arith)
value_order (x ∷ xs) (y ∷ ys) e f l =
    let n : length xs ≡ length ys = omega arith in
    let a = all_tail (λ step. ltb step 7) x xs e in
    let b = all_tail (λ step. ltb step 7) y ys f in
    let w : value ys < many (length xs) = rw n (value_below ys b) in
    ap (λ (r : Bool). ltb x y || (eqb x y && r)) (value_order xs ys a b n)
    ∙ digits_order x y (many (length xs)) (value xs) (value ys) (value_below xs a) w
    ∙ ap (λ (k : ℕ). ltb (x * many (length xs) + value xs) (y * many k + value ys)) n

longer : (n m : ℕ) → n < m → shorter n + many n ≤ shorter m
longer n m h = unfold shorter in shorter_rises (suc n) m h

ltb_add : (a v w : ℕ) → ltb (a + v) (a + w) ≡ ltb v w
ltb_add a v w =
    elim (dec_lt v w) [
      | yes h ↦ rw (lt-ltb v w h, lt-ltb (a + v) (a + w) (omega arith))
      | no h ↦ rw (le-ltb v w (omega arith), le-ltb (a + v) (a + w) (omega arith))
    ]

number_order : (s t : List ℕ) → Steps s → Steps t → before s t ≡ ltb (number s) (number t)
unfolding before number
number_order s t e f =
    let v = value_below s e in
    let w = value_below t f in
    elim (dec_lt (length s) (length t)) [
      | yes a ↦
          let r = longer (length s) (length t) a in
          rw (lt-ltb (length s) (length t) a, lt-ltb (shorter (length s) + value s) (shorter (length t) + value t) (omega arith))
      | no a ↦ elim (dec_lt (length t) (length s)) [
        | yes b ↦
            let r = longer (length t) (length s) b in
            rw (
              le-ltb (length s) (length t) (omega arith),
              ne_eqb (length s) (length t) (λ l. omega arith),
              le-ltb (shorter (length s) + value s) (shorter (length t) + value t) (omega arith),
            )
        | no b ↦ same_length (omega arith)
      ]
    ]
  where
    same_length : length s ≡ length t → before s t ≡ ltb (number s) (number t)
    same_length l =
        rw (le-ltb (length s) (length t) (omega arith), eq-eqb (length s) (length t) l, ← l)
        (value_order s t e f l ∙ sym (ltb_add (shorter (length s)) (value s) (value t)))

pub position_order : (s t : List ℕ) → known s ≡ true → known t ≡ true → before s t ≡ ltb (position_of s) (position_of t)
position_order s t e f = number_order s t (known_steps s e) (known_steps t f) ∙ ap₂ ltb (sym (position_number s e)) (sym (position_number t f))

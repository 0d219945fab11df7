-- Sequences of steps as numbers: the place among those of the same length is the number in base 7, the place among all is the
-- number in base 7 with the digits 1 to 7. Assumes nothing.
use Rattle.std.specs.Prelude.{◌+◌, ◌*◌, ◌≤◌, ◌<◌, ◌≡◌, ◌∷◌, ◌++◌}
use Rattle.short_histories.specs.Laws.Prelude.{ℕ, zero, suc, refl, sym, ap, ◌∙◌, true, List, [], mul-le-mul_right, mul_assoc, mul_comm, dec_lt, arith, ltb, length, length-append, ltb-true, all, all_head, all_tail}

-- each is one of the seven steps
abbrev pub Steps : List ℕ → Type 0
Steps s = all (λ step. ltb step 7) s ≡ true

-- the number of sequences of n steps, and of fewer than n steps
unfoldable pub many : ℕ → ℕ
many zero = 1
many (suc n) = 7 * many n

unfoldable pub shorter : ℕ → ℕ
shorter zero = 0
shorter (suc n) = shorter n + many n

-- the place of a sequence among those of its length, and among all
unfoldable pub value : List ℕ → ℕ
value [] = 0
value (x ∷ xs) = x * many (length xs) + value xs

unfoldable pub number : List ℕ → ℕ
number s = shorter (length s) + value s

pub many_some : (n : ℕ) → 0 < many n
unfolding many
many_some zero = omega arith
many_some (suc n) = let h = many_some n in omega arith

-- 1 + 7 + 49 + 343 + 2401 + 16807 + 117649
pub shorter_than_seven : shorter 7 ≡ 137257
unfolding shorter many
shorter_than_seven = refl

many_rises : (n m : ℕ) → n ≤ m → many n ≤ many m
unfolding many
many_rises zero m h = let k = many_some m in omega arith
many_rises (suc n) zero h = absurd (omega arith)
many_rises (suc n) (suc m) h = let k = many_rises n m (omega arith) in omega arith

pub shorter_rises : (n m : ℕ) → n ≤ m → shorter n ≤ shorter m
unfolding shorter
shorter_rises zero m h = omega arith
shorter_rises (suc n) zero h = absurd (omega arith)
shorter_rises (suc n) (suc m) h = let k = shorter_rises n m (omega arith) in let l = many_rises n m (omega arith) in omega arith

pub value_below : (s : List ℕ) → Steps s → value s < many (length s)
unfolding value many
value_below [] e = omega arith
value_below (x ∷ xs) e =
    let h = ltb-true x 7 (all_head (λ step. ltb step 7) x xs e) in
    let k = value_below xs (all_tail (λ step. ltb step 7) x xs e) in
    let m : x * many (length xs) ≤ 6 * many (length xs) = mul-le-mul_right (many (length xs)) (omega arith) in
    omega arith

-- ---- one more step at the end

length_more : (s : List ℕ) (x : ℕ) → length (s ++ (x ∷ [])) ≡ suc (length s)
length_more s x = length-append s (x ∷ []) ∙ omega arith

shorter_more : (n : ℕ) → shorter (suc n) ≡ 7 * shorter n + 1
unfolding shorter many
shorter_more zero = refl
shorter_more (suc n) = let e = shorter_more n in omega arith

seven_out : (y m : ℕ) → y * (7 * m) ≡ 7 * (y * m)
seven_out y m = sym (mul_assoc y 7 m) ∙ ap (λ (k : ℕ). k * m) (mul_comm y 7) ∙ mul_assoc 7 y m

value_more : (s : List ℕ) (x : ℕ) → value (s ++ (x ∷ [])) ≡ 7 * value s + x
unfolding value many
value_more [] x = omega arith
value_more (y ∷ ys) x =
    let e = value_more ys x in
    let n : many (length (ys ++ (x ∷ []))) ≡ 7 * many (length ys) = ap many (length_more ys x) in
    let m : y * many (length (ys ++ (x ∷ []))) ≡ 7 * (y * many (length ys)) = ap (λ (k : ℕ). y * k) n ∙ seven_out y (many (length ys)) in
    omega arith

pub number_more : (s : List ℕ) (x : ℕ) → number (s ++ (x ∷ [])) ≡ 7 * number s + x + 1
unfolding number
number_more s x =
    let a = ap shorter (length_more s x) in
    let b = shorter_more (length s) in
    let c = value_more s x in
    omega arith

-- a number below 137257 is that of a sequence of at most six steps
pub number_short : (s : List ℕ) → number s < 137257 → length s ≤ 6
unfolding number
number_short s h =
    elim (dec_lt 6 (length s)) [
      | yes k ↦ absurd (let r = shorter_rises 7 (length s) (omega arith) in let e = shorter_than_seven in omega arith)
      | no k ↦ omega arith
    ]

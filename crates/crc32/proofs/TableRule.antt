-- The tables computed from the steps of powers of two, and their rule. Assumes nothing.
use Rattle.crc32.proofs.Prelude.{ℕ, zero, suc, ◌+◌, ◌*◌, ◌/◌, ◌%◌, ◌^◌, ◌<◌, ◌≡◌, refl, sym, ap, ◌∙◌, subst, List, [], ◌∷◌, ◌++◌, arith, bit_xor, xor_shifted, length, get_or, List·getD-append}
use mathlib.Core.Logic.{◌⊎◌, inl, inr}
use native.Mathlib.Nat.{suc-add, zero-add, pow-suc}
use lib.Seq.{get_or-append-add}
use Rattle.crc32.specs.Crc.{bit_step, bit_steps}
use Rattle.crc32.specs.inner.Tables.{Tables}
use Rattle.crc32.specs.Laws.Xor.{parity}
use Rattle.crc32.specs.Laws.Steps.{step_even, steps_xor}

-- each number, and after it its sum with `e`
unfoldable pub pairs : ℕ → List ℕ → List ℕ
pairs e [] = []
pairs e (x ∷ xs) = x ∷ bit_xor x e ∷ pairs e xs

-- the numbers below 2 ^ m after m + n steps: an even one is its half after one step less, and an odd one adds 1
unfoldable pub table : ℕ → ℕ → List ℕ
table zero n = 0 ∷ []
table (suc m) n = pairs (bit_steps (suc m + n) 1) (table m n)

-- the bytes after 8 + n steps, after 16 + n, and so on: `count` tables
unfoldable pub tables_from : ℕ → ℕ → List ℕ
tables_from zero n = []
tables_from (suc count) n = table 8 n ++ tables_from count (n + 8)

-- ---- pairs

pairs_length : (e : ℕ) (xs : List ℕ) → length (pairs e xs) ≡ length xs * 2
unfolding pairs
pairs_length e [] = refl
pairs_length e (x ∷ xs) = omega (arith, pairs_length e xs)

pairs_even : (e : ℕ) (xs : List ℕ) (i : ℕ) → get_or (pairs e xs) (i * 2) 0 ≡ get_or xs i 0
unfolding pairs
pairs_even e [] i = refl
pairs_even e (x ∷ xs) zero = refl
pairs_even e (x ∷ xs) (suc i) =
    let place : suc i * 2 ≡ suc (suc (i * 2)) = omega arith in
    ap (λ (k : ℕ). get_or (pairs e (x ∷ xs)) k 0) place ∙ pairs_even e xs i

pairs_odd : (e : ℕ) (xs : List ℕ) (i : ℕ) → i < length xs → get_or (pairs e xs) (i * 2 + 1) 0 ≡ bit_xor (get_or xs i 0) e
unfolding pairs
pairs_odd e [] i h = absurd (omega arith)
pairs_odd e (x ∷ xs) zero h = refl
pairs_odd e (x ∷ xs) (suc i) h =
    let place : suc i * 2 + 1 ≡ suc (suc (i * 2 + 1)) = omega arith in
    ap (λ (k : ℕ). get_or (pairs e (x ∷ xs)) k 0) place ∙ pairs_odd e xs i (omega arith)

-- ---- one table

zero_steps : (n : ℕ) → bit_steps n 0 ≡ 0
unfolding bit_steps bit_step
zero_steps zero = refl
zero_steps (suc n) = zero_steps n

double_steps : (m n i : ℕ) → bit_steps (suc m + n) (i * 2) ≡ bit_steps (m + n) i
unfolding bit_steps
double_steps m n i =
    ap (λ (k : ℕ). bit_steps k (i * 2)) (suc-add m n)
    ∙ ap (bit_steps (m + n)) (step_even (i * 2) (omega arith) ∙ omega arith)

odd_steps : (m n i : ℕ) → bit_steps (suc m + n) (i * 2 + 1) ≡ bit_xor (bit_steps (m + n) i) (bit_steps (suc m + n) 1)
odd_steps m n i =
    ap (bit_steps (suc m + n)) (sym (xor_shifted i 1 1 (omega arith)))
    ∙ steps_xor (suc m + n) (i * 2) 1
    ∙ ap (λ (x : ℕ). bit_xor x (bit_steps (suc m + n) 1)) (double_steps m n i)

table_length : (m n : ℕ) → length (table m n) ≡ 2 ^ m
unfolding table
table_length zero n = refl
table_length (suc m) n =
    pairs_length (bit_steps (suc m + n) 1) (table m n) ∙ ap (λ (k : ℕ). k * 2) (table_length m n) ∙ sym (pow-suc 2 m)

half_below : (i p : ℕ) → i < p * 2 → i / 2 < p
half_below i p h = omega arith

table_at : (m n i : ℕ) → i < 2 ^ m → get_or (table m n) i 0 ≡ bit_steps (m + n) i
unfolding table
table_at zero n i h =
    let none : i ≡ 0 = omega arith in
    ap (λ (k : ℕ). get_or (0 ∷ []) k 0) none ∙ sym (ap (bit_steps (0 + n)) none ∙ zero_steps (0 + n))
table_at (suc m) n i h = go (table_at m n (i / 2) below) (parity i)
  where
    below : i / 2 < 2 ^ m
    below = half_below i (2 ^ m) (subst (λ (k : ℕ). i < k) (pow-suc 2 m) h)

    e : ℕ
    e = bit_steps (suc m + n) 1

    go : get_or (table m n) (i / 2) 0 ≡ bit_steps (m + n) (i / 2) → (i % 2 ≡ 0) ⊎ (i % 2 ≡ 1)
        → get_or (pairs e (table m n)) i 0 ≡ bit_steps (suc m + n) i
    go r (inl p) =
        let whole : i ≡ i / 2 * 2 = omega arith in
        ap (λ (k : ℕ). get_or (pairs e (table m n)) k 0) whole ∙ pairs_even e (table m n) (i / 2) ∙ r
        ∙ sym (ap (bit_steps (suc m + n)) whole ∙ double_steps m n (i / 2))
    go r (inr p) =
        let whole : i ≡ i / 2 * 2 + 1 = omega arith in
        ap (λ (k : ℕ). get_or (pairs e (table m n)) k 0) whole
        ∙ pairs_odd e (table m n) (i / 2) (subst (λ (k : ℕ). i / 2 < k) (sym (table_length m n)) below)
        ∙ ap (λ (x : ℕ). bit_xor x e) r
        ∙ sym (ap (bit_steps (suc m + n)) whole ∙ odd_steps m n (i / 2))

-- ---- all tables

tables_at : (count n k b : ℕ) → k < count → b < 256 → get_or (tables_from count n) (k * 256 + b) 0 ≡ bit_steps (8 + (n + k * 8)) b
unfolding tables_from
tables_at zero n k b h j = absurd (omega arith)
tables_at (suc count) n zero b h j =
    let steps : n ≡ n + 0 * 8 = omega arith in
    ap (λ (x : ℕ). get_or (table 8 n ++ tables_from count (n + 8)) x 0) (zero-add b)
    ∙ List·getD-append (table 8 n) (tables_from count (n + 8)) 0 b (omega (arith, table_length 8 n))
    ∙ table_at 8 n b j ∙ ap (λ (x : ℕ). bit_steps (8 + x) b) steps
tables_at (suc count) n (suc k) b h j =
    let place : suc k * 256 + b ≡ length (table 8 n) + (k * 256 + b) = omega (arith, table_length 8 n) in
    let steps : n + 8 + k * 8 ≡ n + suc k * 8 = omega arith in
    ap (λ (x : ℕ). get_or (table 8 n ++ tables_from count (n + 8)) x 0) place
    ∙ get_or-append-add (table 8 n) (tables_from count (n + 8)) (k * 256 + b) 0
    ∙ tables_at count (n + 8) k b (omega arith) j
    ∙ ap (λ (x : ℕ). bit_steps (8 + x) b) steps

pub tables_rule : (tables : List ℕ) → tables ≡ tables_from 8 0 → Tables tables
tables_rule tables e = record { entry = rule }
  where
    rule : (k b : ℕ) → k < 8 → b < 256 → get_or tables (k * 256 + b) 0 ≡ bit_steps ((k + 1) * 8) b
    rule k b h j =
        let steps : 8 + (0 + k * 8) ≡ (k + 1) * 8 = omega arith in
        ap (λ (l : List ℕ). get_or l (k * 256 + b) 0) e ∙ tables_at 8 0 k b h j ∙ ap (λ (x : ℕ). bit_steps x b) steps

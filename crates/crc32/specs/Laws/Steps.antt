-- The steps of the register: linear over `bit_xor`, also above 2 ^ 32, and injective below it. Assumes nothing.
use Rattle.std.specs.Prelude.{◌+◌, ◌*◌, ◌/◌, ◌%◌, ◌^◌, ◌<◌, ◌≡◌, ◌⊎◌}
use Rattle.crc32.specs.Laws.Prelude.{ℕ, zero, suc, refl, sym, ap, ap₂, ◌∙◌, inl, inr, suc-add, zero-add, pow-suc, mul_assoc, arith, eq-eqb, ne_eqb, bit_xor, xor_shr, xor_lt}
use Rattle.crc32.specs.Crc.{bit_step, bit_steps}
use Rattle.crc32.specs.Laws.Xor.{parity, xor_parity, xor_half, xor_assoc, xor_exchange, xor_both, xor_cancel_right}

-- One step of an even register, and of an odd one.
pub step_even : (r : ℕ) → r % 2 ≡ 0 → bit_step r ≡ r / 2
unfolding bit_step
step_even r e = rw (ne_eqb (r % 2) 1 (λ f. omega arith))

pub step_odd : (r : ℕ) → r % 2 ≡ 1 → bit_step r ≡ bit_xor (r / 2) 3988292384
unfolding bit_step
step_odd r e = rw (eq-eqb (r % 2) 1 e)

-- A step of a sum is the sum of the steps.
pub step_xor : (a b : ℕ) → bit_step (bit_xor a b) ≡ bit_xor (bit_step a) (bit_step b)
step_xor a b = go (parity a) (parity b)
  where
    go : (a % 2 ≡ 0) ⊎ (a % 2 ≡ 1) → (b % 2 ≡ 0) ⊎ (b % 2 ≡ 1) → bit_step (bit_xor a b) ≡ bit_xor (bit_step a) (bit_step b)
    go (inl p) (inl q) =
        step_even (bit_xor a b) (omega (arith, xor_parity a b)) ∙ xor_half a b
        ∙ sym (ap₂ bit_xor (step_even a p) (step_even b q))
    go (inl p) (inr q) =
        step_odd (bit_xor a b) (omega (arith, xor_parity a b)) ∙ ap (λ (x : ℕ). bit_xor x 3988292384) (xor_half a b)
        ∙ xor_assoc (a / 2) (b / 2) 3988292384 ∙ sym (ap₂ bit_xor (step_even a p) (step_odd b q))
    go (inr p) (inl q) =
        step_odd (bit_xor a b) (omega (arith, xor_parity a b)) ∙ ap (λ (x : ℕ). bit_xor x 3988292384) (xor_half a b)
        ∙ xor_exchange (a / 2) (b / 2) 3988292384 ∙ sym (ap₂ bit_xor (step_odd a p) (step_even b q))
    go (inr p) (inr q) =
        step_even (bit_xor a b) (omega (arith, xor_parity a b)) ∙ xor_half a b
        ∙ sym (ap₂ bit_xor (step_odd a p) (step_odd b q) ∙ xor_both (a / 2) (b / 2) 3988292384)

pub steps_xor : (n a b : ℕ) → bit_steps n (bit_xor a b) ≡ bit_xor (bit_steps n a) (bit_steps n b)
unfolding bit_steps
steps_xor zero a b = refl
steps_xor (suc n) a b = ap (bit_steps n) (step_xor a b) ∙ steps_xor n (bit_step a) (bit_step b)

-- Steps after steps.
pub steps_add : (m n r : ℕ) → bit_steps (m + n) r ≡ bit_steps n (bit_steps m r)
unfolding bit_steps
steps_add zero n r = rw (zero-add n)
steps_add (suc m) n r = ap (λ (k : ℕ). bit_steps k r) (suc-add m n) ∙ steps_add m n (bit_step r)

-- Zeros move out and change nothing.
pub steps_shifted : (k n : ℕ) → bit_steps k (n * 2 ^ k) ≡ n
unfolding bit_steps
steps_shifted zero n = omega arith
steps_shifted (suc k) n =
    let e : n * 2 ^ suc k ≡ n * 2 ^ k * 2 = rw (pow-suc 2 k) (sym (mul_assoc n (2 ^ k) 2)) in
    ap (λ (x : ℕ). bit_steps k (bit_step x)) e
    ∙ ap (bit_steps k) (step_even (n * 2 ^ k * 2) (omega arith) ∙ omega arith)
    ∙ steps_shifted k n

-- The register has 32 bits.
pub step_fits : (r : ℕ) → r < 2 ^ 32 → bit_step r < 2 ^ 32
step_fits r h = go (parity r)
  where
    go : (r % 2 ≡ 0) ⊎ (r % 2 ≡ 1) → bit_step r < 2 ^ 32
    go (inl e) = rw (step_even r e) (omega arith)
    go (inr e) = rw (step_odd r e) (xor_lt 32 (r / 2) 3988292384 (omega arith) (omega arith))

pub steps_fit : (n r : ℕ) → r < 2 ^ 32 → bit_steps n r < 2 ^ 32
unfolding bit_steps
steps_fit zero r h = h
steps_fit (suc n) r h = steps_fit n (bit_step r) (step_fits r h)

-- The highest bit after a step is the bit that moved out.
pub step_top : (r : ℕ) → r < 2 ^ 32 → bit_step r / 2 ^ 31 ≡ r % 2
step_top r h = go (parity r)
  where
    go : (r % 2 ≡ 0) ⊎ (r % 2 ≡ 1) → bit_step r / 2 ^ 31 ≡ r % 2
    go (inl e) = rw (step_even r e) (omega arith)
    go (inr e) =
        let z : r / 2 / 2 ^ 31 ≡ 0 = omega arith in
        ap (λ (x : ℕ). x / 2 ^ 31) (step_odd r e) ∙ xor_shr (r / 2) 3988292384 31
        ∙ ap (λ (x : ℕ). bit_xor x (3988292384 / 2 ^ 31)) z ∙ sym e

-- Registers that differ stay different.
pub step_injective : (a b : ℕ) → a < 2 ^ 32 → b < 2 ^ 32 → bit_step a ≡ bit_step b → a ≡ b
step_injective a b h k e = go (parity a)
  where
    same : a % 2 ≡ b % 2
    same = sym (step_top a h) ∙ ap (λ (x : ℕ). x / 2 ^ 31) e ∙ step_top b k

    go : (a % 2 ≡ 0) ⊎ (a % 2 ≡ 1) → a ≡ b
    go (inl p) = let f : a / 2 ≡ b / 2 = sym (step_even a p) ∙ e ∙ step_even b (sym same ∙ p) in omega (arith, same)
    go (inr p) =
        let f : a / 2 ≡ b / 2 = xor_cancel_right 3988292384 (a / 2) (b / 2) (sym (step_odd a p) ∙ e ∙ step_odd b (sym same ∙ p)) in
        omega (arith, same)

pub steps_injective : (n a b : ℕ) → a < 2 ^ 32 → b < 2 ^ 32 → bit_steps n a ≡ bit_steps n b → a ≡ b
unfolding bit_steps
steps_injective zero a b h k e = e
steps_injective (suc n) a b h k e =
    step_injective a b h k (steps_injective n (bit_step a) (bit_step b) (step_fits a h) (step_fits b k) e)

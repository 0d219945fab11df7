-- Laws of `bit_xor` that the kit does not have. Assumes nothing.
use Rattle.std.specs.Prelude.{◌+◌, ◌*◌, ◌/◌, ◌%◌, ◌<◌, ◌≡◌, ◌⊎◌}
use Rattle.crc32.specs.Laws.Prelude.{ℕ, zero, suc, refl, sym, ap, ◌∙◌, inl, inr, arith, bin_ind, bit_xor, differ, xor_step, xor_shr, xor_comm, xor_self}

-- A number is even or odd.
pub parity : (n : ℕ) → (n % 2 ≡ 0) ⊎ (n % 2 ≡ 1)
parity n = go (n % 2) (omega arith)
  where
    go : (m : ℕ) → m < 2 → (m ≡ 0) ⊎ (m ≡ 1)
    go zero h = inl refl
    go (suc zero) h = inr refl
    go (suc (suc m)) h = absurd (omega arith)

differ_parity : (x y : ℕ) → x < 2 → y < 2 → differ x y ≡ (x + y) % 2
differ_parity zero y h k = omega arith
differ_parity (suc zero) zero h k = refl
differ_parity (suc zero) (suc zero) h k = refl
differ_parity (suc zero) (suc (suc y)) h k = absurd (omega arith)
differ_parity (suc (suc x)) y h k = absurd (omega arith)

-- The lowest bit.
pub xor_parity : (a b : ℕ) → bit_xor a b % 2 ≡ (a % 2 + b % 2) % 2
xor_parity a b =
    let s : bit_xor a b ≡ bit_xor (a / 2) (b / 2) * 2 + differ (a % 2) (b % 2) = xor_step a b in
    let d : differ (a % 2) (b % 2) ≡ (a % 2 + b % 2) % 2 = differ_parity (a % 2) (b % 2) (omega arith) (omega arith) in
    omega arith

-- The other bits.
pub xor_half : (a b : ℕ) → bit_xor a b / 2 ≡ bit_xor (a / 2) (b / 2)
xor_half a b = xor_shr a b 1

by_halves : (x y : ℕ) → x / 2 ≡ y / 2 → x % 2 ≡ y % 2 → x ≡ y
by_halves x y p q = omega arith

odd_assoc : (x y z : ℕ) → ((x + y) % 2 + z) % 2 ≡ (x + (y + z) % 2) % 2
odd_assoc x y z = omega arith

parity_assoc : (a b c : ℕ) → bit_xor (bit_xor a b) c % 2 ≡ bit_xor a (bit_xor b c) % 2
parity_assoc a b c =
    xor_parity (bit_xor a b) c ∙ ap (λ (x : ℕ). (x + c % 2) % 2) (xor_parity a b) ∙ odd_assoc (a % 2) (b % 2) (c % 2)
    ∙ sym (xor_parity a (bit_xor b c) ∙ ap (λ (x : ℕ). (a % 2 + x) % 2) (xor_parity b c))

pub xor_assoc : (a b c : ℕ) → bit_xor (bit_xor a b) c ≡ bit_xor a (bit_xor b c)
xor_assoc a =
    bin_ind (λ (n : ℕ). (b c : ℕ) → bit_xor (bit_xor n b) c ≡ bit_xor n (bit_xor b c)) (λ b c. refl)
    (λ n ih b c. by_halves _ _
    (xor_half (bit_xor n b) c ∙ ap (λ (x : ℕ). bit_xor x (c / 2)) (xor_half n b) ∙ ih (b / 2) (c / 2)
    ∙ sym (xor_half n (bit_xor b c) ∙ ap (bit_xor (n / 2)) (xor_half b c)))
    (parity_assoc n b c)) a

-- Adding a number twice leaves the other.
pub xor_twice : (a b : ℕ) → bit_xor a (bit_xor a b) ≡ b
xor_twice a b = sym (xor_assoc a a b) ∙ ap (λ (x : ℕ). bit_xor x b) (xor_self a)

pub xor_cancel : (a b c : ℕ) → bit_xor a b ≡ bit_xor a c → b ≡ c
xor_cancel a b c e = sym (xor_twice a b) ∙ ap (bit_xor a) e ∙ xor_twice a c

pub xor_cancel_right : (a b c : ℕ) → bit_xor b a ≡ bit_xor c a → b ≡ c
xor_cancel_right a b c e = xor_cancel a b c (xor_comm a b ∙ e ∙ xor_comm c a)

-- The second and third of three exchanged.
pub xor_exchange : (a b c : ℕ) → bit_xor (bit_xor a b) c ≡ bit_xor (bit_xor a c) b
xor_exchange a b c = xor_assoc a b c ∙ ap (bit_xor a) (xor_comm b c) ∙ sym (xor_assoc a c b)

-- A number added to both.
pub xor_both : (a b c : ℕ) → bit_xor (bit_xor a c) (bit_xor b c) ≡ bit_xor a b
xor_both a b c = xor_assoc a c (bit_xor b c) ∙ ap (λ (x : ℕ). bit_xor a (bit_xor c x)) (xor_comm b c) ∙ ap (bit_xor a) (xor_twice c b)

-- The masks and shifts of `from_full` and `probe` as the definitions' quotients and remainders. Assumes nothing.
use Rattle.cells.proofs.Prelude.{ℕ, ◌-◌, ◌*◌, ◌/◌, ◌%◌, ◌^◌, ◌<◌, ◌≡◌, ap, ap₂, ◌∙◌, add_comm, arith, shl_exact, shr_mod, bit_and, bit_or, and_mask, or_shifted_r}
use Rattle.cells.specs.Cells.{compact_hash, probed}

pub compact_law : (x : ℕ) → x < 2 ^ 64
    → bit_or (bit_and x (2 ^ 25 - 1)) ((bit_and (x / 2 ^ 57) (2 ^ 7 - 1) * 2 ^ 25) % 2 ^ 64) ≡ compact_hash x
compact_law x h =
    let low : bit_and x (2 ^ 25 - 1) ≡ x % 2 ^ 25 = and_mask x 25 in
    let high : bit_and (x / 2 ^ 57) (2 ^ 7 - 1) ≡ x / 2 ^ 57 = and_mask (x / 2 ^ 57) 7 ∙ shr_mod {n = x} 7 57 h in
    let top : x / 2 ^ 57 < 2 ^ 7 = omega arith in
    let below : x % 2 ^ 25 < 2 ^ 25 = omega arith in
    ap₂ (λ (a b : ℕ). bit_or a ((b * 2 ^ 25) % 2 ^ 64)) low high
    ∙ ap (bit_or (x % 2 ^ 25)) (shl_exact {a = x / 2 ^ 57} 7 25 64 top (omega arith))
    ∙ or_shifted_r (x / 2 ^ 57) 25 (x % 2 ^ 25) below

pub probe_law : (c : ℕ) → c < 2 ^ 32 → bit_or c ((c / 2 ^ 25 * 2 ^ 57) % 2 ^ 64) ≡ probed c
probe_law c h =
    let top : c / 2 ^ 25 < 2 ^ 7 = omega arith in
    let below : c < 2 ^ 57 = omega arith in
    ap (bit_or c) (shl_exact {a = c / 2 ^ 25} 7 57 64 top (omega arith))
    ∙ or_shifted_r (c / 2 ^ 25) 57 c below
    ∙ add_comm (c / 2 ^ 25 * 2 ^ 57) c

-- The product of `mix`. Assumes nothing.
use Rattle.cells.proofs.Prelude.{ℕ, ◌*◌, ◌^◌, ◌≤◌, ◌<◌, mul-le-mul, arith}

-- a product of two cells fits 64 bits
pub product_fits : (a b : ℕ) → a < 2 ^ 32 → b < 2 ^ 32 → a * b < 2 ^ 64
product_fits a b h k =
    let p : a ≤ 4294967295 = omega arith in
    let q : b ≤ 4294967295 = omega arith in
    let m : a * b ≤ 4294967295 * 4294967295 = mul-le-mul p q in
    omega arith

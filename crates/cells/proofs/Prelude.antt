-- The names that the proofs of this crate take from elsewhere, re-exported. It defines nothing of its own.
pub use Rattle.std.proofs.Common.{ℕ, ◌%◌, ◌*◌, ◌+◌, ◌-◌, ◌/◌, ◌<◌, ◌^◌, ◌≤◌, ◌≡◌, ◌∙◌, ap, ap₂, refl, arith, add_comm, mul-le-mul, bit_and, bit_or, shl_exact}
pub use Rattle.std.proofs.lemmas.Nat.{and_mask}
pub use lib.Bits.{or_shifted_r}
pub use lib.Pow.{shr_mod}

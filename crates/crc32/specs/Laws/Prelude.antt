-- The names that the laws of this crate take from elsewhere, re-exported. It defines nothing of its own.
pub use Rattle.std.specs.Prelude.{◌%◌, ◌*◌, ◌+◌, ◌/◌, ◌<◌, ◌^◌, suc, zero, ℕ, ◌⊎◌, ◌≡◌, refl, drop, get_or, length, take}
pub use mathlib.Core.List.{List, [], ◌++◌, ◌∷◌, append_assoc, foldl, foldl-append}
pub use Rattle.std.proofs.Common.{inl, inr, ◌∙◌, ap, ap₂, sym, add_comm, mul_assoc, pow-suc, suc-add, suc-mul, zero-add, arith, length-append, drop_at, take_at, eq-eqb, ne_eqb}
pub use Rattle.std.proofs.Math.Arith.{bin_ind}
pub use Rattle.std.specs.Int.Bits.{bit_xor, differ, xor_self, xor_shifted, xor_step, xor_zero_r}
pub use Rattle.std.proofs.lemmas.Nat.{xor_comm, xor_lt, xor_shr}

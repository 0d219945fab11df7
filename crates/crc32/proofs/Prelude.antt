-- The names that the proofs of this crate take from the logic, re-exported. It defines nothing of its own.
pub use Prim.Native.Nat.{ℕ, ◌+◌, ◌*◌, ◌/◌, ◌%◌, ◌^◌, ◌<◌, zero, suc, ◌≤◌, ◌-◌}
pub use mathlib.Core.Path.{◌≡◌, sym, ap, ◌∙◌, refl, subst, ap₂}
pub use mathlib.Core.List.{foldl, List, [], ◌∷◌, ◌++◌, foldl-append}
pub use native.Mathlib.Omega.{arith}
pub use lib.Bits.{bit_xor, xor_shifted}
pub use lib.ListN.{length, get_or, get_or-append as List·getD-append, drop, drop_of_length-le}
pub use borrow.Author.Rules.{rules}

-- The names that the proofs of this crate take from the logic, re-exported. It defines nothing of its own.
pub use Prim.Native.Nat.{ℕ, zero, suc, ◌+◌, ◌-◌, ◌*◌, ◌≤◌, ◌<◌}
pub use mathlib.Core.Path.{◌≡◌, refl, sym, ap, ◌∙◌}
pub use native.Mathlib.Omega.{arith}
pub use lib.ListN.{length, take, drop, get_or, length-append, length-take, length-drop}
pub use borrow.Author.Rules.{rules}

-- The names that the proofs of this crate take from elsewhere, re-exported. It defines nothing of its own.
pub use Prim.Native.Nat.{◌-◌}
pub use mathlib.Core.Logic.{inl, inr}
pub use mathlib.Core.Path.{refl}
pub use native.Mathlib.Omega.{arith}
pub use lib.IntN.{pos}
pub use lib.ListN.{length-drop, length-take}
pub use borrow.Author.Rules.{rules}
pub use Rattle.levels_io.specs.inner.Scanning.{left, scanned_all, scanned_newline, stored_part}
pub use Rattle.levels_io.specs.inner.Taking.{line_taken, refilled, refilled_first}

-- The names that the proofs of this crate take from elsewhere, re-exported. It defines nothing of its own.
pub use Prim.Native.Nat.{◌-◌, ℕ}
pub use mathlib.Core.Bool.{false≢true}
pub use mathlib.Core.Path.{◌∙◌, ap, refl, sym}
pub use native.Mathlib.Omega.{arith}
pub use borrow.Author.Rules.{rules}
pub use borrow.Author.Tests.{not-false, not-true}
pub use Rattle.levels.specs.Run.{machine}
pub use Rattle.levels.specs.inner.Advancing.{ended, found, more, nothing_left}
pub use Rattle.levels.specs.inner.Running.{Running, run_ends, running_again, running_begin}
pub use Rattle.levels.specs.inner.Stepping.{handed_used, input_left, lent_program, room_for_line, step_shorter, stepped_line, stepped_silent}
pub use Rattle.table.specs.Outcomes.{stores}

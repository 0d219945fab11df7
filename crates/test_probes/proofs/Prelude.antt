-- The names that the proofs of this crate take from elsewhere, re-exported. It defines nothing of its own.
pub use Prim.Native.Nat.{◌*◌, ◌+◌, ◌≤◌, ℕ}
pub use mathlib.Core.Bool.{false≢true}
pub use mathlib.Core.List.{List}
pub use mathlib.Core.Path.{◌∙◌, ◌≡◌, ap, sym}
pub use native.Mathlib.Nat.{mul-le-mul}
pub use native.Mathlib.Omega.{arith}
pub use lib.ListN.{drop, length, length-drop, length-take, take}
pub use borrow.Author.Rules.{rules}
pub use borrow.Author.Tests.{not-false}
pub use Rattle.merge_rules.specs.Laws.Rules.{survivor_length}
pub use Rattle.merge_rules.specs.Rules.{survivor}
pub use Rattle.test_probes.specs.inner.Parts.{made_done, made_nothing, survives_done, survives_nothing}

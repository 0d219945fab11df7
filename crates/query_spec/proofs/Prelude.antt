-- The names that the proofs of this crate take from elsewhere, re-exported. It defines nothing of its own.
pub use Prim.Native.Nat.{◌-◌, ◌<◌, ◌≤◌, min, ℕ}
pub use mathlib.Core.Bool.{Bool, ◌||◌, false, not, true}
pub use mathlib.Core.List.{List, [], ◌∷◌}
pub use mathlib.Core.Logic.{inl, inr}
pub use mathlib.Core.Path.{◌∙◌, ◌≡◌, ap, sym}
pub use native.Mathlib.Omega.{arith}
pub use lib.Dec.{ltb}
pub use borrow.Author.Tests.{le-ltb, lt-ltb}
pub use Rattle.constraints.specs.Constraints.{known}
pub use Rattle.constraints.specs.declared.Constraint.{Constraint}
pub use Rattle.lists.specs.Laws.Filter.{split}
pub use Rattle.lists.specs.Lists.{all}
pub use Rattle.table.specs.Refusing.{outside, rows_short}
pub use Rattle.table.specs.declared.Header.{Header}

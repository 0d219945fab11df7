-- The names that the proofs of this crate take from elsewhere, re-exported. It defines nothing of its own.
pub use Prim.Native.Nat.{◌*◌, ◌+◌, ◌/◌, ◌<◌, ◌≤◌, ℕ}
pub use mathlib.Core.Bool.{Bool, ◌&&◌, ◌||◌, and-true, false, not, true}
pub use mathlib.Core.List.{List, [], ◌∷◌}
pub use mathlib.Core.Logic.{inl, inr}
pub use mathlib.Core.Path.{◌∙◌, ◌≡◌, refl, sym}
pub use native.Mathlib.Nat.{mul-le-mul}
pub use native.Mathlib.Omega.{arith}
pub use lib.Dec.{leb, ltb}
pub use borrow.Author.Rules.{rules}
pub use borrow.Author.Tests.{eq-eqb, le-leb, le-ltb, leb-false, leb-true, lt-leb, lt-ltb, ne_eqb, not-false, not-true}
pub use Rattle.constraints.specs.Constraints.{known}
pub use Rattle.constraints.specs.declared.Constraint.{Constraint}
pub use Rattle.lists.specs.Laws.All.{or_no_left}
pub use Rattle.lists.specs.Laws.Filter.{split}
pub use Rattle.plain_table.proofs.Laws.Calls.{first_refusal_no, first_refusal_rest}
pub use Rattle.plain_table.proofs.Laws.Proper.{Bounds, openable_bounds}
pub use Rattle.table.proofs.Laws.Refusals.{Inside, outside_inside}
pub use Rattle.table.specs.Numbers.{opening_of}
pub use Rattle.table.specs.declared.Header.{Header}
pub use Rattle.table.specs.inner.Lent.{lengths_of}
pub use Rattle.table.specs.inner.Bounds.{bounds_kept}
pub use Rattle.plain_table.specs.Staged.{Opening}

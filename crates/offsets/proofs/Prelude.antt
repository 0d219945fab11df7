-- The names that the proofs of this crate take from below, re-exported. It defines nothing of its own.
pub use Prim.Native.Nat.{◌%◌, ◌*◌, ◌+◌, ◌-◌, ◌/◌, ◌<◌, ◌^◌, ◌≤◌, suc, ℕ}
pub use mathlib.Core.Bool.{Bool, true, false, ◌&&◌, and-false, and-true, false≢true}
pub use mathlib.Core.List.{List, [], ◌∷◌}
pub use mathlib.Core.Path.{◌≡◌, refl, sym, ap, ap₂, ◌∙◌}
pub use native.Mathlib.Omega.{arith}
pub use native.Mathlib.Decide.{dec_lt}
pub use lib.Dec.{leb, ltb}
pub use lib.ListN.{length, take, drop, get_or, length-drop}
pub use borrow.Author.Rules.{rules}
pub use borrow.Author.Tests.{leb-true, lt-ltb, le-leb, lt-leb, not-true, not-false}
pub use Rattle.lists.specs.Laws.Search.{elem_not_not_below, elem_not_below, not_below_at, not_below_le, not_below_past, not_below_upto}
pub use Rattle.lists.specs.Lists.{elem, rising}
pub use Rattle.lists.specs.inner.Searching.{first_not_below}
pub use Rattle.offsets.specs.inner.Rising.{RisesUpTo}
unfoldable pub use Rattle.offsets.specs.inner.Writing.{bounds}

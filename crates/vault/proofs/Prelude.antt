-- The names that the proofs of this crate take from the logic, re-exported. It defines nothing of its own.
pub use Prim.Native.Nat.{ℕ, zero, suc, ◌+◌, ◌*◌, ◌/◌, ◌%◌, ◌<◌, ◌-◌, ◌^◌, ◌≤◌}
pub use mathlib.Core.Path.{◌≡◌, refl, sym, ◌∙◌, ap, subst}
pub use native.Mathlib.Omega.{arith}
pub use borrow.Author.Rules.{rules}
pub use Rattle.vault.specs.Laws.Refusals.{Accepted, accepted, broken, none, too_narrow, too_short, too_wide}
pub use Rattle.vault.specs.Laws.Differences.{Cells}
pub use Rattle.vault.specs.inner.Filling.{Filled, Shaped, DirectionLaws}
pub use mathlib.Core.List.{List}
pub use Rattle.std.specs.Prelude.{Ok, Err}
pub use Rattle.refusals.specs.declared.Refusal.{Refusal}
pub use Rattle.refusals.specs.Refusals.{number}
pub use Rattle.refusals.specs.Laws.Numbers.{err_replies, number_some, ok_replies}
pub use native.Mathlib.Numerals.{add-one}
pub use native.Mathlib.Decide.{dec_lt, ℕ_discrete}
pub use native.Mathlib.Nat.{mul_comm, mul-le-mul_right, suc-mul, zero-add, zero-mul}
pub use lib.Seq.{ext_get_or, get_or-set_other, get_or-set_same}
pub use Rattle.vault.specs.Laws.Places.{from_place, to_place}
pub use Rattle.vault.specs.Laws.Inverse.{length_from, length_to, multiple}
pub use lib.ListN.{get_or, length, length-set, set}
pub use Rattle.lists.specs.Laws.Parts.{get_d_splice_after, get_d_splice_in, length_splice}
pub use Rattle.lists.specs.Laws.Rows.{row_in}
pub use Rattle.lists.specs.Lists.{splice}

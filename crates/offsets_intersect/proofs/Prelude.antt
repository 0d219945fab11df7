-- The names that the proofs of this crate take from below, re-exported. It defines nothing of its own.
pub use Prim.Native.Nat.{ℕ, ◌*◌, ◌/◌, ◌≤◌, ◌<◌, ◌+◌, ◌-◌, zero, suc, min, max}
pub use mathlib.Core.Bool.{Bool, true, false, true≢false, ◌&&◌, not, false≢true}
pub use mathlib.Core.List.{List, [], ◌∷◌, ◌++◌, append_assoc, append-nil}
pub use mathlib.Core.Logic.{◌⊎◌, inl, inr}
pub use mathlib.Core.Path.{◌≡◌, sym, ◌∙◌, refl, ap, ap₂}
pub use native.Mathlib.Decide.{dec_lt}
pub use native.Mathlib.Numerals.{add-one}
pub use native.Mathlib.Omega.{arith}
pub use lib.Dec.{leb, eqb}
pub use lib.ListN.{length, take, drop, get_or, set, length-drop, length-set, length-take, take-append-drop, drop_of_length-le}
pub use lib.Seq.{length-take-le, drop-cons, drop-drop, get_or-take, get_or-drop}
pub use borrow.Author.Rules.{rules}
pub use borrow.Author.Tests.{le-leb, lt-leb, not-true, eqb-false}
pub use Rattle.lists.specs.Laws.Filter.{split, and_left, and_right, length_filter, count_le, filter_append, filter_yes}
pub use Rattle.lists.specs.Laws.Parts.{splice_nil, splice_alike, set_splice, front_splice, drop_splice}
pub use Rattle.lists.specs.Laws.Rising.{rising_at, filter_elem_comm, rising_drop, elem_at}
pub use Rattle.lists.specs.Laws.Search.{not_below_le, not_below_past, not_below_mono, elem_not_below, elem_in_not_below, filter_within_places, filter_all_fail, not_below_below}
pub use Rattle.lists.specs.Lists.{splice, rising, within}
unfoldable pub use Rattle.lists.specs.Lists.{filter, elem}
pub use Rattle.offsets.specs.Answers.{Answered, intersect_refusal}
unfoldable pub use Rattle.offsets.specs.Answers.{room_needed, intersect_reply}
pub use Rattle.offsets.specs.Laws.Answers.{answered_refused, refusal_first, refusal_second, refusal_none, Allowed, allowed, refusal_room}
pub use Rattle.offsets.specs.Laws.Subsets.{range_writes_nothing, answered_list, formed_order, formed_rising, formed_short}
pub use Rattle.offsets.specs.declared.SubsetForm.TheVariants.{Range}
pub use Rattle.offsets.specs.inner.Writing.{Wrote}
pub use Rattle.offsets_intersect.specs.inner.Blocks.{Lacks, Apart, ApartAt, SkippedTo, MergedTo}
pub use Rattle.offsets_intersect.specs.inner.Common.{MuchLonger, Fitting, Searchable}
unfoldable pub use Rattle.offsets_intersect.specs.inner.Common.{similar, common}
pub use Rattle.offsets.specs.inner.Search.{Scanned}
unfoldable pub use Rattle.offsets.specs.inner.Search.{scan_place, scan}
pub use Rattle.lists.specs.inner.Searching.{first_not_below}

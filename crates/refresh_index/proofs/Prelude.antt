-- The names that the proofs of this crate take from elsewhere, re-exported. It defines nothing of its own.
pub use Prim.Native.Nat.{◌%◌, ◌*◌, ◌+◌, ◌-◌, ◌/◌, ◌<◌, ◌^◌, ◌≤◌, suc, ℕ}
pub use mathlib.Core.Bool.{Bool, ◌&&◌, ◌||◌, false, false≢true, not, true}
pub use mathlib.Core.List.{List, [], ◌∷◌}
pub use mathlib.Core.Logic.{inl, inr}
pub use mathlib.Core.Path.{◌∙◌, ◌≡◌, ap, refl, sym}
pub use native.Mathlib.Decide.{dec_lt, ℕ_discrete}
pub use native.Mathlib.Nat.{add-zero, div-add-mod', mul-le-mul, mul-le-mul_right, suc-mul, zero-mul}
pub use native.Mathlib.Numerals.{add-one}
pub use native.Mathlib.Omega.{arith}
pub use lib.Dec.{eqb}
pub use lib.ListN.{drop, get_or, get_or-replicate, length, length-replicate, length-set, replicate, set, take}
pub use lib.Seq.{drop-set-lt, get_or-set_other, get_or-set_same, get_or-take, length-take-le, take_all, take-set-le}
pub use borrow.Author.Rules.{rules}
pub use borrow.Author.Tests.{eq-eqb, eqb-true, le-leb, leb-false, leb-true, lt-leb, ltb-true, ne_eqb}
pub use Rattle.bitmap.specs.Laws.Bitmaps.{bitmap_of, marked_few, marked_none, marked_one, marked_then, marked_weaker}
pub use Rattle.bitmap.specs.inner.Bitmaps.{Marked, MarkedOne}
pub use Rattle.constraints.specs.Constraints.{is_live}
pub use Rattle.constraints.specs.Laws.Rows.{live_first}
pub use Rattle.key_index.specs.Laws.Places.{Inside, inside}
pub use Rattle.lists.specs.Laws.All.{any_at, any_of, or_right, or_second}
pub use Rattle.lists.specs.Laws.Filter.{all_get_d, and_right, split}
pub use Rattle.lists.specs.Laws.Parts.{drop_splice, get_d_splice_after, length_splice, part_splice, take_drop}
pub use Rattle.lists.specs.Laws.Rising.{elem_here}
pub use Rattle.lists.specs.Laws.Rows.{get_d_row_at, row_in}
pub use Rattle.lists.specs.Lists.{elem, row_at, splice}
pub use Rattle.refresh_index.specs.Laws.Chains.{chain_above, chain_longer, chain_none, chain_on, pushed_keeps, pushed_own}
pub use Rattle.refresh_index.specs.Laws.Found.{found_mentions, mentions_found}
pub use Rattle.refresh_index.specs.Laws.Using.{Usable, usable_is, usable_of}
pub use Rattle.refresh_index.specs.inner.Entries.{Fillable, Pushed, Readable, heads_at}
pub use Rattle.refresh_index.specs.inner.Marking.{MarkedAll, Noted}
pub use Rattle.refresh_spec.specs.Index.{bucket_of, chain}
pub use Rattle.refresh_spec.proofs.Laws.Fronts.{bucket_below, chain_same}
pub use Rattle.refresh_spec.proofs.Laws.Lookup.{column_is}
pub use Rattle.refresh_spec.proofs.Laws.Places.{EntryInRange, entry_in, entry_in_range}
pub use Rattle.refresh_spec.specs.inner.Finding.{CaughtUp, Lendable, ListedMarked, usable}
pub use Rattle.table.proofs.Laws.Refusals.{outside_inside}
pub use Rattle.table.specs.Refusing.{outside}
pub use Rattle.table.specs.declared.Header.{Header}

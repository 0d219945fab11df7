-- The names that the proofs of this crate take from elsewhere, re-exported. It defines nothing of its own.
pub use Prim.Native.Nat.{◌*◌, ◌+◌, ◌-◌, ◌<◌, ◌≤◌, suc, zero, ℕ}
pub use Rattle.std.proofs.Common.{append_assoc}
pub use Rattle.std.proofs.lemmas.List.{append-nil, nil_from_length}
pub use mathlib.Core.Bool.{Bool, ◌&&◌, ◌||◌, false, false≢true, not, true}
pub use mathlib.Core.List.{List, [], ◌++◌, ◌∷◌}
pub use mathlib.Core.Logic.{inl, inr}
pub use mathlib.Core.Path.{◌∙◌, ◌≡◌, ap, refl, sym}
pub use native.Mathlib.Decide.{dec_lt}
pub use native.Mathlib.Nat.{add-zero, suc-mul}
pub use native.Mathlib.Numerals.{add-one}
pub use native.Mathlib.Omega.{arith}
pub use lib.Dec.{eqb, leb, ltb}
pub use lib.ListN.{drop, drop_of_length-le, get_or, get_or-replicate, length, length-replicate, length-set, replicate, set, take}
pub use lib.Seq.{drop-cons, get_or-set_other, get_or-set_same, take-length, take-suc}
pub use borrow.Author.Rules.{rules}
pub use borrow.Author.Tests.{eq-eqb, eqb-false, eqb-true, le-leb, leb-true, lt-ltb, ltb-true}
pub use Rattle.bitmap.specs.Laws.Bitmaps.{bitmap_of, marked_few, marked_none, marked_one, marked_then, marked_weaker}
pub use Rattle.bitmap.specs.inner.Bitmaps.{Marked, MarkedOne}
pub use Rattle.key_index.specs.Laws.Places.{Inside, inside}
pub use Rattle.lists.specs.Laws.All.{and_both, or_right}
pub use Rattle.lists.specs.Laws.Filter.{all_get_d, and_left, and_right, split}
pub use Rattle.lists.specs.Laws.Parts.{part_width}
pub use Rattle.lists.specs.Laws.Rising.{elem_append, elem_of, elem_there}
pub use Rattle.lists.specs.Laws.Rows.{get_d_row_at, length_row_at}
pub use Rattle.plain_table.specs.Refreshing.{mentions}
pub use Rattle.refresh_scan.specs.inner.Scanning.{Linked}
pub use Rattle.refresh_spec.specs.inner.Finding.{mentions_from}
pub use Rattle.table.proofs.Laws.Refusals.{outside_inside}
pub use Rattle.table.specs.declared.Header.{Header}

-- The names that the proofs of this crate take from elsewhere, re-exported. It defines nothing of its own.
pub use Prim.Native.Nat.{◌%◌, ◌*◌, ◌+◌, ◌-◌, ◌/◌, ◌<◌, ◌^◌, ◌≤◌, min, suc, zero, ℕ}
pub use mathlib.Core.Bool.{Bool, false, false≢true, not, true}
pub use mathlib.Core.List.{List}
pub use mathlib.Core.Path.{◌∙◌, ◌≡◌, ap, refl, sym}
pub use mathlib.Core.Logic.{inl, inr}
pub use native.Mathlib.Decide.{dec_lt}
pub use native.Mathlib.Nat.{add-mul, add-zero, mul_comm, mul-le-mul_right, one-mul}
pub use native.Mathlib.Omega.{arith}
pub use lib.ListN.{drop, get_or, length, length-set, set}
pub use lib.Bits.{and_le_r, bit_and}
pub use lib.Count.{count_trailing_zeros}
pub use lib.Dec.{eqb}
pub use lib.Pow.{pow-add, pow_mono, shl_exact}
pub use lib.Seq.{set-get_or}
pub use borrow.Author.Rules.{rules}
pub use borrow.Author.Tests.{eq-eqb, eqb-true, le-leb, lt-leb, ne_eqb, not-false, not-true}
pub use Rattle.bitmap.specs.Laws.Lowest.{Next, bitmap_word_same, next_bit, no_more, onward, onward_all}
pub use Rattle.bitmap.specs.inner.Marking.{other_at}
pub use Rattle.constraints.specs.Constraints.{is_live}
pub use Rattle.constraints.specs.Laws.Rows.{live_first}
pub use Rattle.key_index.specs.Laws.Index.{emptied, empty_sound, keys_same, put_sound, rows_in_lem}
pub use Rattle.key_index.specs.Laws.Places.{Inside, fits_stores, key_part, row_inside}
pub use Rattle.key_index.specs.Laws.Ring.{names_number}
pub use Rattle.key_index.specs.Laws.Longer.{keys_longer, roomy, roomy_fits, same_row_lem}
pub use Rattle.key_index.specs.Laws.Rows.{grown_rows}
pub use Rattle.key_index.specs.Laws.SizeClasses.{fits_fewer}
pub use Rattle.key_index.specs.Slots.{KeysSound, LiveAt, key_at, slots}
pub use Rattle.key_index.specs.declared.IndexShape.{IndexShape}
pub use Rattle.key_index.specs.inner.Index.{EmptyIs, Fits, KeysDiffer, NewPutIs, PutIs, RowsFit, zeros}
pub use Rattle.key_index.specs.inner.Ring.{names_row}
pub use Rattle.key_rebuild.specs.Laws.Renumbering.{renumbered_free}
pub use Rattle.key_rebuild.specs.inner.Rebuilding.{NewRowPut, Rebuilt, RowPut, UniqueBuilt, first_rows}
pub use Rattle.lists.specs.Laws.Filter.{split}
pub use Rattle.lists.specs.Laws.Front.{get_d_map_front_past, length_map_front, map_front_step}
pub use Rattle.lists.specs.Lists.{row_at}
pub use Rattle.row_buffer.specs.Laws.Rows.{bitmap_word_lt, bitmap_word_no, bitmap_word_yes, set_below_le}
pub use Rattle.row_buffer.specs.Ranks.{bitmap_word}

-- The names that the proofs of this crate take from elsewhere, re-exported. It defines nothing of its own.
pub use Prim.Native.Nat.{◌%◌, ◌*◌, ◌+◌, ◌-◌, ◌/◌, ◌<◌, ◌≤◌, min, ℕ}
pub use mathlib.Core.Bool.{Bool, false, true}
pub use mathlib.Core.List.{List, [], ◌++◌, ◌∷◌}
pub use mathlib.Core.Path.{◌∙◌, ◌≡◌, ap, ap₂, refl, sym}
pub use native.Mathlib.Nat.{add-mul, add-zero, mul-le-mul_right}
pub use native.Mathlib.Omega.{arith}
pub use lib.Bits.{and_le_r, bit_and}
pub use lib.Count.{count_trailing_zeros}
pub use lib.ListN.{drop, get_or, length, length-append, length-drop, length-set, length-take, set, take}
pub use lib.Seq.{drop-set-lt}
pub use borrow.Author.Rules.{rules}
pub use Rattle.bitmap.specs.Laws.Lowest.{Next, bitmap_word_same, next_bit, no_more, onward, onward_all}
pub use Rattle.constraints.specs.Constraints.{is_live}
pub use Rattle.constraints.specs.Laws.Rows.{live_first}
pub use Rattle.key_index.specs.Laws.Index.{rows_in_lem}
pub use Rattle.key_index.specs.Laws.Places.{Inside, fits_stores, row_inside}
pub use Rattle.key_index.specs.Laws.SizeClasses.{fits_fewer, size_class_most}
pub use Rattle.key_index.specs.Slots.{slots}
pub use Rattle.key_index.specs.declared.IndexShape.{IndexShape}
pub use Rattle.key_index.specs.inner.Index.{Fits}
pub use Rattle.key_rebuild.specs.inner.Rebuilding.{Rebuilt}
pub use Rattle.key_rebuild.specs.Laws.Renumbering.{below_number, live_among}
pub use Rattle.key_rebuild.specs.inner.Renumbering.{Ranked, renumbered}
pub use Rattle.lists.specs.Laws.Filter.{length_filter}
pub use Rattle.lists.specs.Laws.Parts.{get_d_splice_in, splice_nil}
pub use Rattle.lists.specs.Laws.Rows.{row_in}
pub use Rattle.lists.specs.inner.Searching.{map_front}
pub use Rattle.plain_table.specs.Refusing.{Lengths}
pub use Rattle.refusals.specs.Laws.Replies.{outcome_accepted, outcome_refused}
pub use Rattle.sort_entries.specs.Laws.Push.{push, push_few}
pub use Rattle.sort_entries.specs.inner.Append.{Append}
pub use Rattle.table.specs.Outcomes.{Compacting, SamePast, body, compaction_words, lengths}
pub use Rattle.table.proofs.Laws.Refusals.{compact_accepted, full_shape_fits, inside_full_shape}
pub use Rattle.table.specs.Refusing.{compact_refusal}
pub use Rattle.table.specs.Sound.{index_shape_of}
pub use Rattle.table.specs.declared.Header.{Header}
pub use Rattle.table.specs.inner.FullIndexShape.{full_index_shape_of}
pub use Rattle.table_compact.specs.Laws.Compaction.{Words, close_one, compaction, entries_one, later_row, length_live, live_one, live_skip, rebuild_one, words_begin, words_next, words_number}
pub use Rattle.table_compact.specs.Laws.NoneDead.{none_compaction}
pub use Rattle.table_compact.specs.declared.KeptCounts.{KeptCounts}
pub use Rattle.table_compact.specs.inner.ClosingUp.{Block}
pub use Rattle.table_compact.specs.inner.Compaction.{Compaction, KeysUpdated, Lendable, next_generation}

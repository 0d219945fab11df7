-- The names that the laws of this crate take from elsewhere, re-exported. It defines nothing of its own.
pub use Rattle.std.specs.Prelude.{◌*◌, ◌+◌, ◌/◌, ◌<◌, ◌≤◌, suc, zero, ℕ, Bool, ◌&&◌, ◌||◌, cond, false, not, true, ◌≡◌, refl, eqb, leb, ltb, get_or, length, set, take}
pub use Rattle.std.proofs.Common.{suc-le-suc, inl, inr, ⊎_elim, ◌∙◌, ap, ap₂, sym, add-zero, mul-le-mul_right, zero-add, arith, length-append, length-set, length-take, ext_get_or, get_or-set_same, get_or-take, set-set, take-take, eq-eqb, eqb-true, le-leb, le-ltb, leb-false, leb-true, lt-ltb, ltb-false}
pub use Rattle.std.proofs.lemmas.Bool.{false≢true, eqb-false, not-false, not-true}
pub use mathlib.Core.List.{List, [], ◌++◌, ◌∷◌, append-nil, head-eq_of_cons-eq, map, map-append, tail-eq_of_cons-eq}
pub use Rattle.std.proofs.Math.Option.{Option, map as Option·map, none, some}
pub use Rattle.std.proofs.Math.Decide.{ℕ_discrete}
pub use Rattle.std.proofs.lemmas.List.{get_or-replicate, length-map, length-replicate, set-get_or, take-append-le}
pub use Rattle.constraints.specs.Constraints.{is_live, known}
pub use Rattle.constraints.specs.declared.Constraint.{Constraint}
pub use Rattle.key_index.specs.Laws.Index.{SameLive, emptied, empty_free, empty_sound, keys_same}
pub use Rattle.key_index.specs.Laws.Ring.{slot_below}
pub use Rattle.key_index.specs.Laws.SizeClasses.{fits_fewer, past_size_class, size_class_enough, size_class_most, size_class_some}
pub use Rattle.key_index.specs.Slots.{KeysSound, LiveAt, ReachableAt, home, key_at, size_class_for, slot_from, slots}
pub use Rattle.key_index.specs.declared.IndexShape.{IndexShape}
pub use Rattle.key_index.specs.inner.Index.{EmptyIs, Fits, zeros}
pub use Rattle.lists.specs.Laws.All.{all_append, all_cons, all_head, all_tail, all_weaker, count_alike, get_d_map_below, or_no_left, or_no_right, or_second}
pub use Rattle.lists.specs.Laws.Filter.{all_of, and_left, and_right, split}
pub use Rattle.lists.specs.Laws.Parts.{front_splice, length_splice}
pub use Rattle.lists.specs.Laws.Rows.{flatten_append, get_d_rows_of, length_row_at, length_rows_of, rows_of_same, rows_of_widths, widths}
pub use Rattle.lists.specs.Lists.{all, count, find, row_at, rows_of}
pub use Rattle.plain_table.proofs.Laws.Calls.{first_refusal_no, first_refusal_rest}
pub use Rattle.plain_table.proofs.Laws.Live.{dead_le}
pub use Rattle.plain_table.proofs.Laws.Lookup.{none_lookup, one_lookup}
pub use Rattle.plain_table.proofs.Laws.Proper.{Bounds, Whole, bounds_openable, openable_bounds, opened_proper, stage_all_proper, unstaged_proper}
pub use Rattle.plain_table.proofs.Laws.Rows.{first_fits, kept_row, live_below_lem, live_with_key_key, live_with_key_live, live_with_key_of, no_row, wide_row}
pub use Rattle.plain_table.specs.Plain.{Plain, Row, cleared, compacted, lookup, merged, opened, stage}
pub use Rattle.plain_table.specs.Proper.{Proper, at_most, row_of, sort_cell}
pub use Rattle.plain_table.specs.Refusing.{Lengths, open_refusal}
pub use Rattle.plain_table.specs.Staged.{Opening, Staged, has_key, openable, words_all}
pub use Rattle.refusals.specs.Laws.Determined.{Same, SameAnswer, answer_same, refused_same}
pub use Rattle.refusals.specs.Laws.Replies.{ruled_refused, some_number}
pub use Rattle.refusals.specs.Refusals.{Reply, accepted, refused}
pub use Rattle.sort_entries.specs.Entries.{Entry, entries_of, entries_sound, value_at}
pub use Rattle.sort_entries.specs.Laws.Grow.{sound_some}
pub use Rattle.sort_entries.specs.Laws.Rebuilt.{NeverFalls, rebuilt_few, rebuilt_sound, rebuilt_value_at}
pub use Rattle.sort_entries.specs.Laws.Sound.{sound_climb}
pub use Rattle.sort_entries.specs.Laws.Stores.{entries_of_same, length_entries_of}
pub use Rattle.sort_entries.specs.Laws.Tests.{rebuilt_all, value_at_all}
pub use Rattle.sort_entries.specs.Laws.Values.{rebuilt_same, value_at_climbs}
pub use Rattle.table.specs.Outcomes.{Body, CellRead, Checked, Clearing, Compacting, CompactionWords, LookedUp, Merging, Opened, SamePast, RangeRead, Represents, RowsSince, RowsSinceVersion, Staging, Stores, VersionRead, body, body_of, joined, lengths, lengths_lent, of_rows, stores, with_pending}
pub use Rattle.refusals.specs.Refusals.{found_view, answer_view}
pub use Rattle.table.specs.Numbers.{opening_of, range_view}
pub use Rattle.table.specs.Refusing.{cell_refusal, clear_refusal, compact_refusal, fast_refusal, lookup_refusal, merge_refusal, stage_refusal}
pub use Rattle.table.specs.Sound.{KeysDiffer, Sound, index_shape_of}
pub use Rattle.table.specs.Stores.{header_of, rows_in}
pub use Rattle.table.specs.declared.Header.{Header}
pub use Rattle.std.specs.Prelude.{Option as Optional, None, Some}
pub use Rattle.table.specs.declared.Merge.{Merge}
pub use Rattle.table.specs.inner.FullIndexShape.{full_index_shape_of}

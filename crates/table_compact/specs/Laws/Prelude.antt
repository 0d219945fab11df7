-- The names that the laws of this crate take from elsewhere, re-exported. It defines nothing of its own.
pub use Rattle.std.specs.Prelude.{◌%◌, ◌*◌, ◌+◌, ◌-◌, ◌/◌, ◌<◌, ◌≤◌, min, suc, zero, ℕ, Bool, cond, false, not, true, List, [], ◌++◌, ◌∷◌, map, ◌≡◌, refl, ltb, get_or, length, set}
pub use Rattle.std.proofs.Common.{suc-le-suc, append-nil, inl, inr, ◌∙◌, ap, ap₂, sym, add-zero, mul-le-mul_right, suc-mul, add-one, arith, get_or-set_other, get_or-set_same}
pub use Rattle.std.proofs.lemmas.List.{map-append, length-map}
pub use Rattle.std.proofs.lemmas.Simd.{map-map}
pub use Rattle.std.proofs.Math.Decide.{ℕ_discrete}
pub use Rattle.constraints.specs.Constraints.{is_live}
pub use Rattle.key_index.specs.Laws.Lines.{small}
pub use Rattle.key_index.specs.Laws.SizeClasses.{past_size_class}
pub use Rattle.key_index.specs.Slots.{KeysSound, LiveAt}
pub use Rattle.key_index.specs.inner.Index.{Fits}
pub use Rattle.key_rebuild.specs.Laws.Renumbering.{Compacted, below_number, live_among, live_rises, renumber_sound, slots_renumbered}
pub use Rattle.lists.specs.Laws.All.{all_cons}
pub use Rattle.lists.specs.Laws.Filter.{all_filter, count_le, filter_all, filter_append, length_filter, split}
pub use Rattle.lists.specs.Laws.Parts.{length_splice, part_after, splice_front, splice_then}
pub use Rattle.lists.specs.Laws.Rows.{flatten_append, flatten_rows_of, get_d_rows_of, length_flatten, length_row_at, length_rows_of, rows_of_put_flatten, rows_of_snoc, rows_of_widths, widths, widths_filter}
pub use Rattle.plain_table.proofs.Laws.Live.{dead_compacted}
pub use Rattle.plain_table.proofs.Laws.Proper.{compacted_proper}
pub use Rattle.plain_table.proofs.Laws.Rows.{no_row}
pub use Rattle.plain_table.specs.Proper.{Proper}
pub use Rattle.row_buffer.specs.Laws.Rows.{filter_at, number_rank}
pub use Rattle.row_buffer.specs.Ranks.{live_word, new_number}
pub use Rattle.sort_entries.specs.Entries.{Entry, entries_of, entry, entry_words, rebuilt}
pub use Rattle.sort_entries.specs.Laws.Push.{last_passes, push, push_new, push_same, rebuilt_snoc}
pub use Rattle.sort_entries.specs.Laws.Rebuilt.{rebuilt_few}
pub use Rattle.sort_entries.specs.Laws.Stores.{entries_of_put, length_words, words_entries_of, words_snoc}
pub use Rattle.sort_entries.specs.inner.Append.{Append}
pub use Rattle.table.specs.Outcomes.{Represents, SamePast, lengths, stores}
pub use Rattle.table.proofs.Laws.Refusals.{full_shape_fits}
pub use Rattle.table.proofs.Laws.Shown.{entries_few, represents_long, row_shown, rows_counted, rows_in_lem, rows_stored, checked_rows_stored, stores_long}
pub use Rattle.table.proofs.Laws.Stored.{stored_live}
pub use Rattle.table.specs.Sound.{index_shape_of}
pub use Rattle.table.specs.declared.Header.{Header}
pub use Rattle.table_compact.specs.declared.KeptCounts.{KeptCounts}
pub use Rattle.table_compact.specs.inner.Compaction.{ClosedUp, Compaction, KeysUpdated, Lendable, next_generation}

-- The names that the laws of this crate take from elsewhere, re-exported. It defines nothing of its own.
pub use Rattle.std.specs.Prelude.{◌*◌, ◌+◌, ◌<◌, ◌≤◌, suc, zero, ℕ, cond, false, not, true, List, [], ◌++◌, ◌∷◌, map, ◌⊎◌, ◌≡◌, refl, drop, get_or, length, set, take}
pub use Rattle.std.proofs.lemmas.Bool.{false≢true, not-true}
pub use Rattle.std.proofs.Common.{inl, inr, ◌∙◌, ap, ap₂, sym, add-zero, mul-le-mul_right, zero-add, add-one, arith, length-set, length-take, drop_at, drop-drop, drop-set-lt, ext_get_or, get_or-drop, get_or-take, set-set, take_at, take-take}
pub use Rattle.std.proofs.Math.Decide.{dec_lt}
pub use Rattle.std.proofs.Math.Seq.{map-set_same}
pub use Rattle.key_index.specs.Slots.{KeysSound, LiveAt, key_at}
pub use Rattle.lists.specs.Laws.All.{all_head, all_tail}
pub use Rattle.lists.specs.Laws.Filter.{all_get_d, all_of, split}
pub use Rattle.lists.specs.Laws.Parts.{splice_front, splice_over, take_drop}
pub use Rattle.lists.specs.Laws.Rows.{flatten_rows_of, get_d_rows_of, length_flatten, length_rows_of, row_in, rows_of_put_flatten, widths}
pub use Rattle.merge_pending.specs.inner.Becoming.{Becomes, Later, with_counts, with_dead}
pub use Rattle.plain_table.proofs.Laws.Proper.{openable_bounds, thinned_proper}
pub use Rattle.plain_table.proofs.Laws.Rows.{Thinned, died, empty, free_row, keys_distinct, keys_distinct_head, keys_distinct_of, keys_distinct_tail, live_below_lem, live_with_key_key, live_with_key_live, no_row, same_row_lem, thinned_same}
pub use Rattle.plain_table.specs.Plain.{Plain}
pub use Rattle.plain_table.specs.Proper.{Proper, row_of}
pub use Rattle.plain_table.specs.Refusing.{wrong_width}
pub use Rattle.plain_table.specs.Staged.{remove_key, remove_row}
pub use Rattle.row_buffer.specs.Laws.Rows.{stale_rows}
pub use Rattle.sort_entries.specs.Entries.{Entry, entry_words, rebuilt}
pub use Rattle.sort_entries.specs.Laws.Rebuilt.{rebuilt_front}
pub use Rattle.sort_entries.specs.Laws.Stores.{length_words, words_entries_of}
pub use Rattle.table.specs.Outcomes.{Represents, Stores, lengths, stores}
pub use Rattle.table.proofs.Laws.Lookup.{live_passes, passes_live}
pub use Rattle.table.proofs.Laws.Pending.{length_record_words}
pub use Rattle.table.proofs.Laws.Shown.{entries_few, live_cells_lem, long_stores, represents_long, rows_counted, rows_in_lem, rows_stored, checked_rows_stored, wide_rows}
pub use Rattle.table.proofs.Laws.Sound.{get_d_sort_cells, length_sort_cells, sort_cells}
pub use Rattle.table.proofs.Laws.Stored.{length_stored, stored_again, stored_at_dead, stored_at_live, stored_at_new, stored_widths}
pub use Rattle.table.specs.Numbers.{opening_of}
pub use Rattle.table.specs.Sound.{index_shape_of}
pub use Rattle.table.specs.declared.Header.{Header}

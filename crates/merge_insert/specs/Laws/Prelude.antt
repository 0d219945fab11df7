-- The names that the laws of this crate take from elsewhere, re-exported. It defines nothing of its own.
pub use Rattle.std.specs.Prelude.{◌*◌, ◌+◌, ◌<◌, ◌≤◌, ℕ, cond, false, not, true, List, [], ◌++◌, ◌∷◌, map, ◌≡◌, refl, ltb, drop, get_or, length, set, take}
pub use Rattle.std.proofs.Common.{append-nil, inl, inr, ◌∙◌, ap, ap₂, sym, add-zero, mul-le-mul, suc-mul, add-one, arith, length-append, length-set, drop-drop, drop-set-lt, le-leb}
pub use Rattle.std.proofs.lemmas.List.{map-append, length-map}
pub use Rattle.std.proofs.Math.ListN.{get_or-append as List·getD-append}
pub use Rattle.std.proofs.lemmas.Bool.{lt-leb}
pub use Rattle.key_index.specs.Slots.{KeysSound}
pub use Rattle.key_index.specs.inner.Index.{Fits}
pub use Rattle.lists.specs.Laws.Filter.{count_append, split}
pub use Rattle.lists.specs.Laws.Parts.{length_splice, splice_alike, splice_start}
pub use Rattle.lists.specs.Laws.Rows.{flatten_append, flatten_rows_of, get_d_rows_of, length_rows_of, row_in, rows_of_appended}
pub use Rattle.lists.specs.Lists.{splice}
pub use Rattle.merge_insert.specs.inner.Appending.{Entered, grown_to}
pub use Rattle.merge_pending.specs.Laws.Dying.{entries_kill_at, kill_at, kill_at_cells, kill_at_live, length_kill_at, stored_kill_at}
pub use Rattle.merge_pending.specs.inner.Becoming.{Becomes, Later, with_counts}
pub use Rattle.plain_table.proofs.Laws.Calls.{first_refusal_no, first_refusal_rest}
pub use Rattle.plain_table.proofs.Laws.Proper.{openable_bounds}
pub use Rattle.plain_table.proofs.Laws.Rows.{live_below_lem, live_row, no_row, raised_same}
pub use Rattle.plain_table.specs.Proper.{Proper, row_of}
pub use Rattle.row_buffer.specs.Laws.Rows.{stale_rows}
pub use Rattle.sort_entries.specs.Entries.{Entry, entries_of, entry_words, rebuilt}
pub use Rattle.sort_entries.specs.Laws.Push.{last_passes, push, rebuilt_snoc}
pub use Rattle.sort_entries.specs.Laws.Stores.{length_entries_of, words_entries_of}
pub use Rattle.sort_entries.specs.inner.Append.{Append, EntryFits, append_few}
pub use Rattle.table.specs.Outcomes.{Represents, Stores, lengths, stores}
pub use Rattle.table.proofs.Laws.Shown.{long_stores, represents_long, rows_counted, rows_stored, checked_rows_stored}
pub use Rattle.table.proofs.Laws.Sound.{largest_view_largest_of}
pub use Rattle.table.proofs.Laws.Stored.{stored_again}
pub use Rattle.table.specs.Numbers.{largest_view}
pub use Rattle.table.specs.Sound.{index_shape_of}
pub use Rattle.table.specs.declared.Header.{Header}
pub use Rattle.std.specs.Prelude.{Some}
pub use Rattle.table.specs.inner.FullIndexShape.{full_index_shape_of}

-- The names that the laws of this crate take from elsewhere, re-exported. It defines nothing of its own.
pub use Rattle.std.specs.Prelude.{◌*◌, ◌+◌, ◌-◌, ◌<◌, ◌≤◌, suc, zero, ℕ, Bool, ◌&&◌, ◌||◌, cond, false, not, true, List, [], ◌++◌, ◌∷◌, map, ◌⊎◌, ◌≡◌, refl, eqb, ltb, drop, get_or, length, take}
pub use Rattle.std.proofs.Math.Bool.{and-false, and-true}
pub use Rattle.std.proofs.lemmas.Bool.{false≢true, eqb-false, not-false}
pub use Rattle.std.proofs.Common.{append-nil, inl, inr, ◌∙◌, ap, sym, mul-le-mul_right, zero-add, arith, length-drop, length-take, take-take, eq-eqb, eqb-true, leb-true, lt-ltb, ltb-false, ltb-true, ne_eqb}
pub use Rattle.std.proofs.Math.Option.{Option, none, some}
pub use Rattle.std.proofs.lemmas.List.{drop-append-le, take-append-le}
pub use Rattle.constraints.specs.Constraints.{is_live}
pub use Rattle.constraints.specs.declared.Constraint.{Constraint}
pub use Rattle.history.specs.Claim.{wanted}
pub use Rattle.history.specs.Histories.{Called, History, Step, Steps, behind, called, clears, compacts, end, lent_call, merges, next, refreshes, refreshes_unsound, stages}
pub use Rattle.history.specs.Notes.{Guaranteed, OldNote, stored_row}
pub use Rattle.history.specs.Runs.{Query, refines}
pub use Rattle.history.specs.Stamps.{OldStampsStayOut}
pub use Rattle.history.specs.Total.{EveryRefreshIsACall}
pub use Rattle.lists.specs.Laws.All.{or_no_left, or_no_right, or_second}
pub use Rattle.lists.specs.Laws.Filter.{and_left, and_right, count_le, length_filter, split}
pub use Rattle.lists.specs.Laws.Rising.{elem_at, elem_filter, filter_elem_comm, rising_ext, rising_filter, within_below, within_of}
pub use Rattle.lists.specs.Laws.Rows.{get_d_rows_of, row_in, rows_of_same}
pub use Rattle.lists.specs.Lists.{elem, filter, flatten, rows_of, splice}
pub use Rattle.plain_table.specs.Calls.{LentCall, after_all, compacting, feeding, merging, refreshing}
pub use Rattle.plain_table.proofs.Laws.Calls.{accepted_done, first_refusal_no, first_refusal_rest, refused_nothing}
pub use Rattle.plain_table.proofs.Laws.Notes.{Follows, follows_at, follows_length, follows_live, live_behind, onward_all}
pub use Rattle.plain_table.proofs.Laws.Price.{compacted_live, live_dead, merged_price, merged_rows}
pub use Rattle.plain_table.proofs.Laws.Proper.{openable_bounds}
pub use Rattle.plain_table.proofs.Laws.Refreshing.{whole_right}
pub use Rattle.plain_table.proofs.Laws.Stamps.{stamped_history}
pub use Rattle.plain_table.specs.Plain.{Plain, applied, compacted, merged, opened}
pub use Rattle.plain_table.specs.Proper.{row_of}
pub use Rattle.plain_table.specs.Refreshing.{Refresh}
pub use Rattle.plain_table.specs.Staged.{Opening, Staged, insert}
pub use Rattle.refresh_spec.specs.Index.{Current, IndexOf, IndexSound, generation_seen, is_new, looked_up}
pub use Rattle.refresh_spec.proofs.Laws.Decided.{index_decided}
pub use Rattle.refresh_spec.proofs.Laws.Fronts.{continues, generation_front, index_front, index_more, named_count, new_front}
pub use Rattle.refresh_spec.proofs.Laws.Keeps.{fed_accepted, fed_refused, fed_written, found_records, number, passed, records_all, records_whole, refresh_refusal_same, refreshing_done, refreshing_refused, view_accepted, view_refused}
pub use Rattle.refresh_spec.proofs.Laws.Lookup.{lookup_holding, names_of}
pub use Rattle.refresh_spec.specs.Refreshes.{Refreshing}
pub use Rattle.refresh_spec.specs.declared.Refreshed.{Refreshed}
pub use Rattle.refusals.specs.Laws.Replies.{ruled_refused, some_number}
pub use Rattle.refusals.specs.Refusals.{Reply, accepted, refused}
pub use Rattle.sort_entries.specs.Entries.{Entry, entries_of, fast_range}
pub use Rattle.sort_entries.specs.Laws.Ranges.{fast_range_lem}
pub use Rattle.sort_entries.specs.Laws.Stores.{entries_of_same}
pub use Rattle.table.specs.Outcomes.{Body, Clearing, CompactedTable, Compacting, CompactionWords, MergedTable, Merging, Opened, Represents, Staging, Stores, body, body_of, compaction_words, joined, lengths_lent, merge_of, merged_store, stores}
pub use Rattle.table.proofs.Laws.Checks.{clear_checks_lem, compact_checks_lem, merge_checks_lem, stage_checks_lem}
pub use Rattle.table.proofs.Laws.Fronts.{body_more, body_part, keys_more, keys_part, pending_more, pending_part, rows_more, rows_part}
pub use Rattle.table.proofs.Laws.Keeps.{clearing_done, clearing_refused, compacting_done, compacting_refused, merging_done, merging_refused, opening_done, staging_done, staging_refused}
pub use Rattle.table.proofs.Laws.Live.{live_shown}
pub use Rattle.table.proofs.Laws.Opening.{cleared_rows, empty_represents, empty_header, opened_done}
pub use Rattle.table.proofs.Laws.Refusals.{clear_accepted, compact_accepted, fast_accepted, merge_accepted, noted_accepted, outside_inside, rows_long_of}
pub use Rattle.table.proofs.Laws.Replies.{accepted_number, accepted_same, outcome_accepted, reply_refused}
pub use Rattle.table.proofs.Laws.Shown.{represents_inside, row_shown, rows_counted}
pub use Rattle.table.proofs.Laws.Sound.{largest_view_largest_of, represents_sound, sound_represents}
pub use Rattle.table.proofs.Laws.Staging.{stage_accepted}
pub use Rattle.refusals.specs.Refusals.{answer_view}
pub use Rattle.table.specs.Numbers.{largest_view, range_view}
pub use Rattle.table.specs.Refusing.{clear_refusal, compact_refusal, merge_refusal, stage_refusal}
pub use Rattle.table.specs.Stores.{record_words, row_store, sort_store}
pub use Rattle.table.specs.declared.Header.{Header}
pub use Rattle.table.specs.declared.Merge.{Merge}

-- The names that the laws of this crate take from elsewhere, re-exported. It defines nothing of its own.
pub use Rattle.std.specs.Prelude.{◌*◌, ◌<◌, ◌≤◌, suc, zero, ℕ, Bool, ◌&&◌, cond, false, not, true, List, [], ◌++◌, ◌∷◌, ◌≡◌, refl, eqb, leb, ltb, drop, get_or, length, take}
pub use Rattle.std.proofs.lemmas.Bool.{false≢true, eqb-false, not-false}
pub use Rattle.std.proofs.Common.{append_assoc, inl, inr, ◌∙◌, ap, sym, arith, length-take, take_all, eq-eqb, eqb-true, le-ltb, leb-false, leb-true, lt-ltb, ne_eqb}
pub use Rattle.std.proofs.Math.Option.{Option, none, some}
pub use Rattle.std.proofs.Math.Decide.{dec_lt}
pub use Rattle.std.proofs.Math.ListN.{get_or-eq_default as List·getD-eq-default}
pub use Rattle.std.specs.Int.Signed.{lt_z}
pub use Rattle.constraints.specs.Constraints.{known}
pub use Rattle.constraints.specs.Encoding.{condition_in}
pub use Rattle.constraints.specs.declared.Constraint.{Constraint}
pub use Rattle.levels_spec.specs.Answers.{Answering, Held, lent, no_table, table}
pub use Rattle.levels_spec.specs.Response.{LineResult, line_result}
pub use Rattle.levels_spec.specs.declared.Response.{Response}
pub use Rattle.levels_spec.specs.declared.Response.TheVariants.{Refused}
pub use Rattle.levels_spec.specs.declared.Served.{Served}
pub use Rattle.levels_spec.specs.inner.Responses.{Responds, ServedWith, nothing_response, response_of}
pub use Rattle.levels_text.specs.Laws.Lines.{no_forms, too_long}
pub use Rattle.levels_text.specs.Lines.{of_forms}
pub use Rattle.levels_text.specs.Written.{text_line}
pub use Rattle.listing_spec.specs.Laws.Lines.{line_numbers}
pub use Rattle.listing_spec.specs.Listings.{Listing, ParsesAs, listing_text}
pub use Rattle.listing_write.specs.Laws.Listed.{live_fits, table_listed}
pub use Rattle.listing_write.specs.Laws.Represented.{stored_plain}
pub use Rattle.listing_write.specs.Writing.{table_listing}
pub use Rattle.lists.specs.Laws.All.{all_append, all_cons, all_head, all_snoc, all_tail, or_second}
pub use Rattle.lists.specs.Laws.Filter.{all_get_d, and_left, and_right, split}
pub use Rattle.lists.specs.Lists.{all}
pub use Rattle.plain_table.specs.Calls.{Call, clearing, compacting, done, merging, refusal, staging}
pub use Rattle.plain_table.proofs.Laws.Calls.{accepted_done, first_refusal_no, refused_nothing}
pub use Rattle.plain_table.proofs.Laws.Counts.{Appended, again, insert_all_keeps, new, removed_keeps}
pub use Rattle.plain_table.proofs.Laws.Lookup.{lookup_at}
pub use Rattle.plain_table.proofs.Laws.Proper.{after_proper, openable_bounds, opened_proper}
pub use Rattle.plain_table.proofs.Laws.Rows.{Thinned, dies_thinned, filter_thinned, kill_if_thinned, no_row, thinned_all}
pub use Rattle.plain_table.specs.Plain.{Plain, opened}
pub use Rattle.plain_table.specs.Proper.{Proper, row_of}
pub use Rattle.plain_table.specs.Refusing.{Lengths}
pub use Rattle.plain_table.specs.Staged.{Opening, Staged, insert, remove_key, remove_row}
pub use Rattle.refusals.specs.Laws.Replies.{ruled_refused, some_number}
pub use Rattle.refusals.specs.Refusals.{accepted, check, outcome, reply}
pub use Rattle.table.specs.Outcomes.{Clearing, Compacting, Merging, Opened, Represents, Staging, Stores, body, compaction_words, lengths, merge_of, stores}
pub use Rattle.table.proofs.Laws.Checks.{clear_checks_lem, compact_checks_lem, merge_checks_lem, stage_checks_lem}
pub use Rattle.table.proofs.Laws.Keeps.{after_accepted, after_refused, clearing_done, clearing_refused, compacting_done, compacting_refused, merging_done, merging_refused, opening_done, staging_done, staging_refused}
pub use Rattle.table.proofs.Laws.Replies.{reply_accepted}
pub use Rattle.table.proofs.Laws.Shown.{represents_inside, represents_long, rows_counted}
pub use Rattle.table.proofs.Laws.Sound.{represents_sound}
pub use Rattle.refusals.specs.Refusals.{answer_view}
pub use Rattle.table.specs.Numbers.{range_view}
pub use Rattle.table.specs.Refusing.{outside}
pub use Rattle.table.specs.Stores.{header_of}
pub use Rattle.table.specs.declared.Header.{Header}
pub use Rattle.table.specs.declared.Version.{Version}

-- The names that the laws of one call (Encoding, Requests, Making) take from elsewhere, re-exported. It defines nothing of its own.
pub use Rattle.std.specs.Prelude.{◌*◌, ◌+◌, ◌-◌, ◌<◌, ◌≤◌, suc, ℕ, false, true, List, [], ◌++◌, ◌∷◌, map, ◌≡◌, refl, drop, get_or, length, take}
pub use Rattle.std.proofs.lemmas.Bool.{false≢true}
pub use Rattle.std.proofs.Common.{append-nil, inl, inr, ◌∙◌, ap, sym, mul-le-mul_left, arith, drop-drop, le-ltb, lt-ltb, ltb-false, ne_eqb}
pub use Rattle.std.proofs.lemmas.List.{map-append}
pub use Rattle.history.proofs.Laws.Calls.{step_represents, steps_represents}
pub use Rattle.history.proofs.Laws.Further.{behind_nothing, whole_step}
pub use Rattle.history.proofs.Laws.Refreshes.{own_indexes_sound}
pub use Rattle.history.specs.Refreshes.{OwnIndex, adopted, other_call, refreshes}
pub use Rattle.lists.specs.Laws.All.{or_no_left, or_no_right}
pub use Rattle.lists.specs.Laws.Parts.{part_to_end}
pub use Rattle.plain_table.specs.Calls.{clearing, compacting, merging, staging}
pub use Rattle.plain_table.proofs.Laws.Calls.{accepted_done, first_refusal_no, first_refusal_rest}
pub use Rattle.plain_table.proofs.Laws.Notes.{onward_all}
pub use Rattle.plain_table.specs.Plain.{Plain}
pub use Rattle.plain_table.specs.Refreshing.{Refresh}
pub use Rattle.plain_table.specs.Refusing.{Lengths}
pub use Rattle.plain_table.specs.Staged.{Opening, Staged, insert, remove_key, remove_row}
pub use Rattle.refresh_spec.specs.Index.{IndexSound, is_new}
pub use Rattle.refresh_spec.proofs.Laws.Decided.{index_decided}
pub use Rattle.refresh_spec.proofs.Laws.Keeps.{number}
pub use Rattle.refresh_spec.specs.Refreshes.{Refreshing}
pub use Rattle.refusals.specs.Laws.Replies.{some_number}
pub use Rattle.replay.specs.Requests.{Request, Served, end, lent_to, made, make, next, refresh, refreshed, refreshed_unsound}
pub use Rattle.replay.specs.inner.Making.{Made, MadeOnIndex, MadeOnPending}
pub use Rattle.table.specs.Outcomes.{Clearing, Compacting, CompactionWords, Merging, Represents, Staging, Stores, WordsPast, body, compaction_words, lengths, stores}
pub use Rattle.table.proofs.Laws.Checks.{compact_checks_lem, merge_checks_lem}
pub use Rattle.refusals.specs.Refusals.{answer_view}
pub use Rattle.table.specs.Refusing.{compact_refusal, merge_refusal}
pub use Rattle.table.specs.declared.Header.{Header}

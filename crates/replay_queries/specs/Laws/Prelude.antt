-- The names that the laws of this crate take from elsewhere, re-exported. It defines nothing of its own.
pub use Rattle.std.specs.Prelude.{◌<◌, ◌≤◌, ℕ, true, List, [], ◌++◌, ◌∷◌, ◌≡◌, refl, drop, length, replicate, take}
pub use Rattle.std.proofs.Common.{append_assoc, inl, inr, ◌∙◌, ap, sym, arith, ne_eqb}
pub use Rattle.std.proofs.Math.Option.{Option, none, some}
pub use Rattle.std.proofs.lemmas.List.{length-replicate}
pub use Rattle.std.proofs.Math.Seq.{take-length}
pub use Rattle.constraints.specs.declared.Constraint.{Constraint}
pub use Rattle.history.specs.Claim.{wanted}
pub use Rattle.history.specs.Histories.{History}
pub use Rattle.history.proofs.Laws.Queries.{by_reply_given, refine_given}
pub use Rattle.history.proofs.Laws.Theorem.{term_three}
pub use Rattle.history.specs.Runs.{Outcome, Query, refines}
pub use Rattle.lists.specs.Lists.{any, filter, rising}
pub use Rattle.plain_table.specs.Calls.{LentCall}
pub use Rattle.plain_table.specs.Staged.{Opening}
pub use Rattle.refusals.specs.Laws.Replies.{ruled_refused, some_number}
pub use Rattle.refusals.specs.Refusals.{Reply, accepted, refused, reply}
pub use Rattle.replay_queries.specs.Outcomes.{subset_left}
pub use Rattle.replay_queries.specs.declared.RunAnswer.{RunAnswer}
pub use Rattle.replay_queries.specs.inner.Executing.{Executed}
pub use Rattle.replay_queries.specs.RunQueries.{RunMade, shorter}
pub use Rattle.replay_queries.specs.inner.Running.{QueryExecuted}
pub use Rattle.sort_entries.specs.Entries.{entries_of, entries_sound}
pub use Rattle.table.specs.Outcomes.{RangeRead, Stores, fast_subset, stores}
pub use Rattle.table.proofs.Laws.Replies.{reply_accepted, reply_refused}
pub use Rattle.table.specs.Numbers.{range_view}
pub use Rattle.table.specs.Refusing.{fast_refusal}
pub use Rattle.table.specs.declared.Header.{Header}

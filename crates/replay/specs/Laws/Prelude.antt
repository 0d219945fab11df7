-- The names that the laws of this crate take from elsewhere, re-exported. It defines nothing of its own.
pub use Rattle.std.specs.Prelude.{◌*◌, ◌+◌, ◌<◌, suc, zero, ℕ, false, true, List, [], map, ◌⊎◌, ◌≡◌, refl, length}
pub use Rattle.std.proofs.Common.{inl, inr, ◌∙◌, ap, sym, arith}
pub use Rattle.history.specs.Claim.{Claimed}
pub use Rattle.history.specs.Histories.{History, Steps, end}
pub use Rattle.history.proofs.Laws.Calls.{steps_represents}
pub use Rattle.history.proofs.Laws.Determined.{SameCells, steps_determined}
pub use Rattle.history.proofs.Laws.Further.{history_whole}
pub use Rattle.history.proofs.Laws.Theorem.{term_three}
pub use Rattle.lists.specs.Lists.{any}
pub use Rattle.plain_table.specs.Calls.{Call, LentCall, after_all}
pub use Rattle.plain_table.specs.Plain.{opened}
pub use Rattle.plain_table.specs.Refusing.{open_refusal}
pub use Rattle.plain_table.specs.Staged.{Opening}
pub use Rattle.refresh_spec.specs.Index.{IndexSound, is_new}
pub use Rattle.refusals.specs.Laws.Determined.{refused_same}
pub use Rattle.refusals.specs.Laws.Replies.{some_number}
pub use Rattle.replay.specs.Laws.Requests.{calls_plain, calls_requested, index_past, index_sound, index_unused, is_refresh, lent_all, requested, served_steps, slots_past}
pub use Rattle.replay.specs.Requests.{Request}
pub use Rattle.replay.specs.inner.Making.{Made}
pub use Rattle.replay.specs.Replays.{MadeFrom, Replayed, compactions}
pub use Rattle.table.specs.Outcomes.{Body, CompactionWords, Opened, Represents, SamePast, Stores, WordsPast, body, joined, lengths, stores}
pub use Rattle.table.proofs.Laws.Keeps.{opening_done}
pub use Rattle.table.proofs.Laws.Replies.{accepted_number}
pub use Rattle.table.specs.Stores.{header_of}
pub use Rattle.table.specs.declared.Header.{Header}

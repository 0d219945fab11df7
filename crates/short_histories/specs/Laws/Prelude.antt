-- The names that the laws of this crate take from elsewhere, re-exported. It defines nothing of its own.
pub use Rattle.std.specs.Prelude.{◌%◌, ◌*◌, ◌+◌, ◌-◌, ◌/◌, ◌<◌, ◌≤◌, suc, zero, ℕ, Bool, ◌&&◌, ◌||◌, false, true, List, [], ◌++◌, ◌∷◌, map, ◌≢◌, ◌≡◌, refl, eqb, leb, ltb, get_or, length, take, Result, Ok, Err, Option as Optional, Some, None}
pub use Rattle.std.proofs.Common.{suc-le-suc, append_assoc, append-nil, ⊎_elim, ◌∙◌, ap, ap₂, sym, add-zero, div-add-mod', div-lt_iff_lt-mul, mod-lt, mul_assoc, mul_comm, mul-le-mul_right, suc-mul, zero-add, zero-mul, add-one, arith, length-append, get_or-append-add, eq-eqb, le-leb, le-ltb, leb-true, lt-ltb, ltb-true, ne_eqb}
pub use Rattle.std.proofs.Math.Option.{Option, none, some}
pub use Rattle.std.proofs.Math.Decide.{dec_lt}
pub use Rattle.std.proofs.Math.ListN.{get_or-append as List·getD-append}
pub use Rattle.std.proofs.lemmas.List.{length-map}
pub use Rattle.std.proofs.lemmas.Bool.{lt-leb}
pub use Rattle.lists.specs.Laws.All.{all_cons, all_head, all_snoc, all_tail, and_both, get_d_map_below}
pub use Rattle.lists.specs.Laws.Filter.{and_left, and_right, split}
pub use Rattle.lists.specs.Laws.Parts.{splice_nil}
pub use Rattle.lists.specs.Laws.Rising.{same_eq, same_refl}
pub use Rattle.lists.specs.Laws.Rows.{row_in}
pub use Rattle.lists.specs.Laws.Search.{take_put}
pub use Rattle.lists.specs.Lists.{all, splice}
pub use Rattle.plain_table.specs.Calls.{Call, clearing, compacting, feeding, merging, refreshing, staging}
pub use Rattle.plain_table.specs.Staged.{insert, remove_key, remove_row}
pub use Rattle.refusals.specs.Laws.Determined.{Same}
pub use Rattle.refusals.specs.Laws.Replies.{some_number}
pub use Rattle.refusals.specs.Refusals.{Reply, accepted, refused}
pub use Rattle.short_histories.specs.Sequences.{NextFound, SequenceFound, known, position_of, sequence_at}
pub use Rattle.refusals.specs.declared.Refusal.{Refusal}
pub use Rattle.refusals.specs.declared.Refusal.TheVariants.{PastTheLast, TooShort, UnknownSequence}
pub use Rattle.short_histories.specs.declared.Step.{Step}
pub use Rattle.short_histories.specs.declared.Step.TheVariants.{Insert, Merge, Remove}

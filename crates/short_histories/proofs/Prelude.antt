-- The names that the proofs of this crate take from the logic, re-exported. It defines nothing of its own.
pub use Prim.Native.Nat.{ℕ, zero, suc, ◌+◌, ◌-◌, ◌*◌, ◌/◌, ◌%◌, ◌≤◌, ◌<◌}
pub use mathlib.Core.Path.{◌≡◌, refl, sym, ap, ap₂, ◌∙◌}
pub use native.Mathlib.Omega.{arith}
pub use lib.ListN.{get_or-append as List·getD-append, length, take, drop, get_or, set, replicate, length-replicate, length-take, length-append, length-set, drop_of_length-le, take-append-drop}
pub use borrow.Author.Tests.{lt-ltb, le-ltb, le-leb, lt-leb, ltb-true, not-true, not-false}
pub use borrow.Author.Rules.{rules}
pub use mathlib.Core.List.{List, [], ◌++◌, ◌∷◌, append_assoc, append-nil}
pub use mathlib.Core.Logic.{◌≢◌}
pub use native.Mathlib.Decide.{dec_lt}
pub use Rattle.short_histories.specs.Laws.Numbers.{Steps, number, number_more, number_short}
pub use Rattle.short_histories.specs.Laws.Blocks.{number_none}
pub use mathlib.Core.Bool.{Bool, ◌&&◌, false, not, true}
pub use native.Mathlib.Numerals.{add-one}
pub use Rattle.lists.specs.Lists.{all}
pub use Rattle.lists.specs.Laws.All.{all_append, all_cons}
pub use Rattle.lists.specs.Laws.Filter.{all_get_d, all_of}
pub use lib.Seq.{append_snoc, drop-cons, drop-length, drop-set-lt, get_or-append-add, get_or_at, get_or-set_same, get_or-take, length-take-le, take-length, take-suc}
pub use Rattle.short_histories.specs.Sequences.{known, position_of, sequence_at}
pub use Rattle.short_histories.specs.Laws.Positions.{known_of, known_short, known_steps, position_below, position_more, position_nothing, position_number, sequence_at_known, sequence_at_more, sequence_at_none, sequence_at_position_of}
pub use lib.Dec.{ltb}
pub use Rattle.short_histories.specs.Laws.Refusals.{next_none, next_unknown, next_written, position_answered, position_refused, sequence_no_room, sequence_past_last, sequence_written}
pub use Rattle.lists.specs.Laws.Parts.{copy_step, splice_nil}
pub use Rattle.std.proofs.Common.{length-drop}
pub use Rattle.std.proofs.lemmas.List.{set_at}

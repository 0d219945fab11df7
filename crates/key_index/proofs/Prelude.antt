-- The names that the proofs of this crate take from the logic, re-exported. It defines nothing of its own.
pub use Prim.Native.Nat.{ℕ, ◌+◌, ◌/◌, ◌%◌, ◌^◌, ◌≤◌, ◌<◌, ◌*◌, zero, suc, ◌-◌}
pub use mathlib.Core.Path.{◌≡◌, sym, ap, ◌∙◌, refl}
pub use mathlib.Core.Bool.{Bool, ◌||◌, cond, false, false≢true, true}
pub use mathlib.Core.List.{List, [], ◌∷◌}
pub use native.Mathlib.Nat.{add_assoc, add-mod_right, add-zero, mod-eq_of_lt, mul-le-mul, zero-add}
pub use native.Mathlib.Omega.{arith}
pub use lib.ListN.{get_or, length, set, drop, length-replicate, replicate-append-replicate, take, length-set}
pub use borrow.Author.Tests.{eqb-false, eqb-true, le-leb, leb-false, leb-true, lt-leb, lt-ltb, not-false, not-true}
pub use borrow.Author.Rules.{rules}
pub use Rattle.key_index.specs.Laws.BackwardShift.{backward_shift_length, backward_shift_move, backward_shift_rest, backward_shift_spent, backward_shift_stay, backward_shift_stop, remove_row_sound}
pub use Rattle.key_index.specs.inner.BackwardShift.{RowRemoved, Shifted, backward_shift}
pub use Rattle.key_index.specs.inner.Window.{Ahead, FreeSoon, TakenRun, OtherRun}
pub use Rattle.std.specs.Prelude.{None, Option, Some}
pub use Rattle.key_index.specs.declared.Hit.{Hit}
pub use Rattle.key_index.specs.inner.Index.{EmptyIs, FoundAt, FoundIs, HitIs, Leads, NewPutIs, PutIs, RowsFit, RowsIn, zeros}
pub use Rattle.key_index.specs.declared.IndexShape.{IndexShape}
pub use Rattle.key_index.specs.Laws.Places.{Inside, key_part, row_inside}
pub use Rattle.key_index.specs.Slots.{KeysSound, LiveAt, ReachableAt, home, key_at, slot_from, slots, word}
pub use native.Mathlib.Numerals.{add-one}
pub use borrow.Author.Count.{below_more}
pub use native.Mathlib.Decide.{dec_lt, ℕ_discrete}
pub use lib.Seq.{drop-set-lt, get_or-set_other, get_or-set_same, set-get_or}
pub use Rattle.lists.specs.Laws.Parts.{drop_splice, length_splice, set_splice, splice_nil, splice_then}
pub use Rattle.key_index.specs.Laws.Ring.{home_spread, names_none, names_number, names_yes, slot_below, slot_low, slot_met, slot_then, slot_wraps, slot_zero, spread_below, tagged_bits, tagged_of, tagged_row, word_same, word_some, word_tagged}
pub use mathlib.Core.Logic.{inl, inr}
pub use Rattle.row_buffer.specs.Laws.Rows.{key_row}
pub use lib.Dec.{eqb, leb}
pub use Rattle.lists.specs.Laws.All.{or_no_left, or_no_right, or_second}
pub use Rattle.key_index.specs.Laws.Index.{free_slot, rows_in_lem}
pub use Rattle.key_index.specs.Laws.Longer.{keys_longer, roomy, roomy_fits}
pub use Rattle.lists.specs.Lists.{same, splice}
pub use Rattle.lists.specs.Laws.Rising.{same_eq, same_refl}
pub use Rattle.lists.specs.Laws.Filter.{split}
pub use Rattle.key_index.specs.inner.Ring.{away, spread, tagged}

-- The names that the laws of this crate take from elsewhere, re-exported. It defines nothing of its own.
pub use Rattle.std.specs.Prelude.{◌%◌, ◌*◌, ◌+◌, ◌-◌, ◌/◌, ◌<◌, ◌^◌, ◌≤◌, suc, zero, ℕ, Bool, cond, false, true, List, ◌++◌, ◌⊎◌, ◌≡◌, refl, eqb, leb, ltb, drop, get_or, length, set, take}
pub use Rattle.std.proofs.lemmas.Bool.{false≢true}
pub use Rattle.std.proofs.Common.{inl, inr, ◌∙◌, ap, sym, add_assoc, add-zero, mod-eq_of_lt, mod-lt, mul-le-mul, mul-le-mul_right, mul-lt-mul_of_pos_right, zero-add, arith, length-append, length-drop, drop-drop, drop-set-lt, get_or-set_other, get_or-set_same, eq-eqb, le-leb, leb-true, lt-ltb, ltb-true, ne_eqb}
pub use Rattle.std.proofs.Math.Decide.{dec_lt, ℕ_discrete}
pub use Rattle.std.proofs.Math.Nat.{add-mod-mod, add-mod_right, mod-add-mod, mod_self}
pub use Rattle.std.proofs.lemmas.List.{get_or-replicate, length-replicate, drop-append-le, take-append-le}
pub use Rattle.constraints.specs.Constraints.{is_live}
pub use Rattle.key_index.specs.Slots.{KeysSound, LiveAt, ReachableAt, home, key_at, slot_from, slots, word}
pub use Rattle.key_index.specs.declared.IndexShape.{IndexShape}
pub use Rattle.key_index.specs.inner.Index.{EmptyIs, FirstFree, FirstHit, Fits, FoundAt, PutIs, RowsFit, RowsIn, zeros}
pub use Rattle.key_index.specs.inner.Ring.{away}
pub use Rattle.lists.specs.Laws.Filter.{and_left, and_right, split}
pub use Rattle.lists.specs.Laws.Parts.{get_d_splice_in, part_width}
pub use Rattle.lists.specs.Laws.Rows.{row_in}
pub use Rattle.lists.specs.Lists.{row_at, same, splice}
pub use Rattle.row_buffer.specs.Laws.Rows.{key_row}

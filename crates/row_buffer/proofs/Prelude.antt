-- The names that the proofs of this crate take from elsewhere, re-exported. It defines nothing of its own.
pub use Rattle.std.proofs.Common.{ℕ, suc, ◌%◌, ◌*◌, ◌+◌, ◌-◌, ◌<◌, ◌^◌, ◌≤◌, ◌≡◌, ◌∙◌, ap, ap₂, refl, sym, arith, true, false, ◌&&◌, List, ◌++◌, eqb, add_comm, add-one, one-mul, bit_and, bit_or, pow_pos, shl_exact, length, take, drop, get_or, set, length-set, length-take, length-drop, take-append-drop, drop_of_length-le, drop-cons, drop-drop, get_or-drop, eq-eqb, ne_eqb}
pub use Rattle.std.proofs.lemmas.Nat.{and_mask}
pub use Rattle.std.specs.Int.Count.{ones}
pub use borrow.Rule.Slice.PartMut.{put_mid}
pub use lib.Bits.{or_shifted_r}
pub use lib.Seq.{get_or-append-add, length-take-le, take-length}
pub use Rattle.lists.specs.Laws.Parts.{copy_step, part_to_end, part_width, put_part}
pub use Rattle.lists.specs.Laws.Rising.{same_ne}
pub use Rattle.lists.specs.Lists.{same}
pub use Rattle.row_buffer.specs.Laws.Rows.{ones_below, set_below_le}
pub use Rattle.row_buffer.specs.Ranks.{set_below}

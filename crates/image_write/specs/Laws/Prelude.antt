-- The names that the laws of this crate take from elsewhere, re-exported. It defines nothing of its own.
pub use Rattle.std.specs.Prelude.{◌*◌, ◌+◌, ◌/◌, ◌<◌, ◌≤◌, suc, zero, ℕ, false, true, List, [], ◌++◌, ◌∷◌, ◌≡◌, refl, ltb, get_or, length, set, take}
pub use Rattle.std.proofs.Common.{append_assoc, ⊎_elim, ◌∙◌, ap, ap₂, sym, le_trans, mul-le-mul, mul-le-mul_right, add-one, arith, length-append, length-take-le, take-suc, eq-eqb, le-leb, le-ltb, lt-ltb, ltb-false}
pub use Rattle.std.proofs.Math.Option.{some}
pub use Rattle.std.proofs.Math.ListN.{get_or-eq_default as List·getD-eq-default}
pub use Rattle.crc32.specs.Crc.{bytes_of, crc32}
pub use Rattle.image_spec.specs.Laws.Unique.{length_packed}
pub use Rattle.image_write.specs.inner.Parts.{Holds, words_in_use}
pub use Rattle.lists.specs.Laws.All.{or_no_left, or_no_right}
pub use Rattle.lists.specs.Laws.Parts.{length_splice, part_splice, set_set_splice, set_splice, splice_then}
pub use Rattle.lists.specs.Lists.{all, splice}
pub use Rattle.plain_table.proofs.Laws.Calls.{first_refusal_no, first_refusal_rest}
pub use Rattle.refusals.specs.Laws.Determined.{Same}
pub use Rattle.refusals.specs.Laws.Replies.{some_number}
pub use Rattle.table.proofs.Laws.Refusals.{Inside, outside_inside}
pub use Rattle.table.proofs.Laws.Replies.{accepted_number, accepted_same}
pub use Rattle.table.specs.declared.Header.{Header}

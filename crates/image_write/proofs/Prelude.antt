-- The names that the proofs of this crate take from the logic, re-exported. It defines nothing of its own.
pub use Prim.Native.Nat.{ℕ, ◌+◌, ◌*◌, ◌-◌, ◌≤◌}
pub use mathlib.Core.Path.{◌≡◌, refl, ap, ◌∙◌, sym, ap₂}
pub use mathlib.Core.List.{List, [], append-nil, ◌++◌}
pub use native.Mathlib.Omega.{arith}
pub use lib.ListN.{drop, drop_of_length-le, length, length-drop, set, length-set, take}
pub use Rattle.std.proofs.lemmas.List.{drop-drop}
pub use lib.Seq.{length-take-le, take-length}
pub use Rattle.image_write.specs.Laws.Checks.{Accepted, accepted_holds, inside_few, length_is, pending_outside_no, size_accepted, size_long, size_none, size_outside, write_accepted, write_long, write_none, write_outside, write_rows, write_short, write_sorts}
pub use Rattle.table.specs.declared.Header.{Header}
pub use Rattle.image_write.specs.Laws.Bodies.{body_written, head_written, image_written, length_header, stores_written}
pub use mathlib.Core.Bool.{false}
pub use Rattle.image_write.specs.Laws.Packed.{get_d_packed}
pub use Rattle.image_spec.specs.Image.{image_length, image_of, image_words, packed}
pub use Rattle.image_spec.specs.Laws.Unique.{length_packed}
pub use Rattle.table.specs.Refusing.{pending_outside, pairs_short, rows_short}
pub use Rattle.lists.specs.Lists.{splice}
pub use Rattle.image_spec.specs.Outcomes.{write_refusal}

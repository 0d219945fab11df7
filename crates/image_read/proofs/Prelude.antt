-- The names that the proofs of this crate take from elsewhere, re-exported. It defines nothing of its own.
pub use Prim.Native.Nat.{◌%◌, ◌*◌, ◌+◌, ◌-◌, ◌/◌, ◌<◌, ◌≤◌, suc, zero, ℕ}
pub use mathlib.Core.Bool.{Bool, ◌||◌, false, true}
pub use mathlib.Core.List.{List, [], append-nil, ◌++◌, ◌∷◌}
pub use mathlib.Core.Option.{Option, none, some}
pub use mathlib.Core.Path.{◌∙◌, ◌≡◌, ap, refl, sym}
pub use native.Mathlib.Nat.{mul-le-mul_right}
pub use native.Mathlib.Omega.{arith}
pub use lib.Dec.{ltb}
pub use lib.ListN.{drop, drop_of_length-le, get_or, length, length-drop, length-replicate, set, take}
pub use lib.Seq.{drop-cons, get_or-drop, get_or-take, length-take-le, take-length}
pub use borrow.Author.Tests.{eq-eqb, le-ltb, lt-ltb, ltb-false, ne_eqb}
pub use Rattle.crc32.specs.Crc.{bytes_of}
pub use Rattle.image_check.specs.inner.Decoding.{DecodingIs}
pub use Rattle.image_check.specs.Laws.Bytes.{byte_of, bytes_cons, length_bytes}
pub use Rattle.image_check.specs.Laws.Images.{image_in_proper, text_length}
pub use Rattle.image_check.specs.declared.parse.Layout.{Layout}
pub use Rattle.image_read.specs.inner.Loading.{TextIn}
pub use Rattle.image_spec.specs.Image.{Image, Reads}
pub use Rattle.key_index.specs.Laws.Longer.{keys_longer}
pub use Rattle.key_index.specs.Laws.SizeClasses.{past_size_class, size_class_enough, size_class_most}
pub use Rattle.key_index.specs.Slots.{KeysSound, size_class_for}
pub use Rattle.key_index.specs.declared.IndexShape.{IndexShape}
pub use Rattle.key_index.specs.inner.Index.{Fits, RowsIn}
pub use Rattle.key_rebuild.specs.inner.Rebuilding.{Rebuilt}
pub use Rattle.lists.specs.Laws.All.{or_no_left, or_no_right}
pub use Rattle.lists.specs.Laws.Parts.{copy_step, drop_splice, get_d_splice_in, length_splice}
pub use Rattle.plain_table.proofs.Laws.Calls.{first_refusal_no, first_refusal_rest}
pub use Rattle.table.specs.Outcomes.{Body, body, lengths}
pub use Rattle.table.proofs.Laws.Fronts.{slots_alike}
pub use Rattle.table.proofs.Laws.Refusals.{Inside, inside_fits, outside_inside}
pub use Rattle.table.proofs.Laws.Shown.{LongEnough, stores_long}
pub use Rattle.table.specs.Sound.{index_shape_of}
pub use Rattle.table.specs.declared.Header.{Header}
pub use Rattle.table.specs.inner.Lent.{lengths_of}

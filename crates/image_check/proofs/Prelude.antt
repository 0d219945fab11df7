-- The names that the proofs of this crate take from elsewhere, re-exported. It defines nothing of its own.
pub use Prim.Native.Nat.{◌%◌, ◌*◌, ◌+◌, ◌-◌, ◌/◌, ◌<◌, ◌≤◌, ℕ}
pub use mathlib.Core.Bool.{false, true, true≢false}
pub use mathlib.Core.List.{List}
pub use mathlib.Core.Path.{◌∙◌, ◌≡◌, ap, refl, sym}
pub use native.Mathlib.Nat.{mul-le-mul}
pub use native.Mathlib.Omega.{arith}
pub use lib.Dec.{eqb, ltb}
pub use lib.ListN.{drop, get_or, length, length-drop, take}
pub use lib.Seq.{get_or-drop, get_or-take, length-take-le}
pub use borrow.Author.Tests.{eqb-false, eqb-true}
pub use Rattle.crc32.specs.Crc.{bytes_of, crc32}
pub use Rattle.image_check.specs.Laws.Bytes.{filled_one, filled_three, filled_two, filled_whole}
pub use Rattle.image_check.specs.Laws.Images.{image_passes, layout_in, passes_image, placed_of}
pub use Rattle.image_check.specs.declared.parse.Layout.{Layout}
pub use Rattle.std.specs.Prelude.{None, Some}
pub use Rattle.image_spec.specs.Image.{reads_none}
pub use Rattle.sort_entries.specs.inner.Checks.{Decides, decides_no, decides_yes}
pub use Rattle.table.proofs.Laws.Refusals.{outside_inside}
pub use Rattle.table.specs.Refusing.{outside}
pub use Rattle.table.specs.declared.Header.{Header}

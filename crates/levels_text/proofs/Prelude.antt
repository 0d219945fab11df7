-- The names that the proofs of this crate take from the logic, re-exported. It defines nothing of its own.
pub use Prim.Native.Nat.{ℕ, ◌+◌, ◌-◌, ◌*◌, ◌≤◌, ◌<◌}
pub use mathlib.Core.Path.{◌≡◌, refl, sym, ap, ◌∙◌}
pub use native.Mathlib.Omega.{arith}
pub use lib.ListN.{length, drop, get_or, take, set, length-set, length-take}
pub use borrow.Author.Rules.{rules}
pub use mathlib.Core.List.{List, [], ◌++◌, ◌∷◌, append_assoc, append-nil, map}
pub use Rattle.levels_text.specs.inner.Appending.{Numbering, appended_line, appended_number, appended_numbered, appended_one, appended_splice, line_wrote, numbering_again, numbering_begin, numbering_end, numbering_next}
pub use mathlib.Core.Bool.{◌&&◌, false, true}
pub use native.Mathlib.Numerals.{add-one}
pub use Rattle.levels_text.specs.Laws.Lines.{bare_last, comma_first, first_at_comma, first_end, no_bytes, too_long}
pub use borrow.Author.Tests.{eqb-false, eqb-true, leb-false, leb-true, ne_eqb}
pub use lib.Dec.{eqb, leb}
pub use Rattle.levels_text.specs.Laws.Decimals.{few_digits, field_length, field_some, length_line, length_numbered, length_written}
pub use Rattle.levels_text.specs.inner.Reading.{line_none, line_some, parsed_no_line, parsed_right, parsed_wrong, read_no_room, read_right, read_wrong}
pub use Rattle.lists.specs.Laws.Search.{put_more}
pub use Rattle.lists.specs.Laws.Parts.{splice_nil}
pub use lib.Seq.{take-suc-set}
pub use mathlib.Core.Logic.{inl, inr}
pub use Rattle.lists.specs.Laws.Filter.{split}
pub use Rattle.std.specs.Prelude.{Option, None, Some}
pub use Rattle.std.proofs.Common.{subst, drop-drop, drop-cons, drop_of_length-le, take_all, take-suc}
pub use Rattle.levels_text.specs.Laws.Kinds.{kind_some, no_kind}

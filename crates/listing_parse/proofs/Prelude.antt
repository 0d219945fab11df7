-- The names that the proofs of this crate take from the logic, re-exported. It defines nothing of its own.
pub use Prim.Native.Nat.{ℕ, ◌+◌, ◌-◌, ◌*◌, ◌≤◌, ◌<◌, suc}
pub use mathlib.Core.Path.{◌≡◌, refl, ap, ◌∙◌, sym}
pub use mathlib.Core.Bool.{Bool, false, ◌&&◌, and-false, true, cond, not, false≢true, and-true}
pub use mathlib.Core.List.{List, [], ◌∷◌, ◌++◌, map, append-nil, append_assoc}
pub use native.Mathlib.Omega.{arith}
pub use lib.ListN.{length, drop, get_or, length-drop, drop_of_length-le, take, set, get_or-eq_default as List·getD-eq-default, length-take, length-map, length-append, length-set}
pub use borrow.Author.Tests.{ne_eqb, lt-ltb, eq-eqb, le-leb, lt-leb, le-ltb, eqb-true, eqb-false, ltb-true, not-false}
pub use lib.Dec.{eqb, leb, ltb}
pub use lib.Seq.{take-suc, take-suc-set, drop-cons, drop-drop, get_or-take, get_or_at, length-take-le}
pub use borrow.Author.Rules.{rules}
pub use Rattle.listing_parse.specs.inner.Surveys.{Counted}
pub use Rattle.listing_parse.specs.declared.Number.{Number}
pub use Rattle.listing_parse.specs.inner.Lines.{Found, LineAt, RowAt, RowFound, line_from}
pub use Rattle.levels_text.specs.Laws.Lines.{first_comma, first_more, is_line_lem, length_first, no_bytes, others_comma, others_more}
pub use Rattle.levels_text.specs.Laws.Digits.{decimal_some}
pub use Rattle.listing_spec.specs.Laws.Decimals.{decimal_parts}
pub use Rattle.listing_spec.specs.Laws.Lines.{fields_length_lem, line_decimals, line_ended, line_letter, line_of}
pub use Rattle.listing_parse.specs.declared.Survey.{Survey}
pub use native.Mathlib.Numerals.{add-one}
pub use Rattle.listing_spec.specs.Laws.Texts.{good_last, good_more, no_row, rows_more, shown_text, text_shown}
pub use Rattle.lists.specs.Laws.Rising.{bool_ext}
pub use mathlib.Core.Logic.{◌⊎◌, inl, inr}
pub use Rattle.levels_text.specs.Lines.{is_line, numbers}
pub use Rattle.listing_spec.specs.Laws.Pieces.{joined_pieces, pieces_some}
pub use Rattle.lists.specs.Laws.Filter.{and_left, and_right, split}
pub use Rattle.lists.specs.Laws.Search.{put_more}
pub use Rattle.lists.specs.Laws.Parts.{splice_nil}
pub use native.Mathlib.Decide.{ℕ_discrete}

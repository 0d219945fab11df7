-- The names that the proofs of this crate take from elsewhere, re-exported. It defines nothing of its own.
pub use Prim.Native.Nat.{◌*◌, ◌+◌, ◌-◌, ◌<◌, ◌≤◌, ℕ}
pub use mathlib.Core.Bool.{Bool, ◌&&◌, false, false≢true, not, true}
pub use mathlib.Core.List.{List, [], ◌++◌, ◌∷◌, map}
pub use mathlib.Core.Logic.{inl, inr}
pub use mathlib.Core.Option.{none, some}
pub use mathlib.Core.Path.{◌∙◌, ◌≡◌, ap, refl, sym}
pub use native.Mathlib.Decide.{ℕ_discrete}
pub use native.Mathlib.Nat.{mul-le-mul, zero-add}
pub use native.Mathlib.Numerals.{add-one}
pub use native.Mathlib.Omega.{arith}
pub use lib.Dec.{eqb, ltb}
pub use lib.ListN.{drop, get_or, length, length-append, length-drop, length-take, take}
pub use lib.Seq.{length-take-le}
pub use borrow.Author.Rules.{rules}
pub use borrow.Author.Tests.{eq-eqb, le-ltb, lt-ltb, ltb-false, ltb-true, ne_eqb}
pub use borrow.Rule.Slice.PartMut.{put_mid}
pub use Rattle.levels_text.specs.Laws.Decimals.{fields_more, length_field, length_fields}
pub use Rattle.levels_text.specs.Written.{field, text_line}
pub use Rattle.levels_text.specs.inner.Appending.{Appended, appended_none, appended_put, appended_then}
pub use Rattle.listing_parse.specs.Laws.Steps.{ValidRows, none_from, row_few, rows_from, valid_rows_line, valid_rows_next, valid_rows_room, valid_rows_row}
pub use Rattle.listing_parse.specs.declared.Survey.{Survey}
pub use Rattle.listing_parse.specs.inner.Lines.{Found, LineReread}
pub use Rattle.listing_spec.specs.Laws.Conversions.{fields_length, lacks_no_row, lacks_none, numbered_longer, plain_shorter}
pub use Rattle.listing_spec.specs.Laws.Texts.{rows_shown, shown_listing, shown_text, text_shown, text_wrong}
pub use Rattle.listing_spec.specs.Listings.{prefix_width}
pub use Rattle.listing_spec.specs.inner.Checking.{lines_to_rows, listing_in, pieces, text_good}
pub use Rattle.lists.specs.Laws.All.{all_weaker}
pub use Rattle.lists.specs.Laws.Filter.{and_left, split}
pub use Rattle.lists.specs.Laws.Parts.{length_splice, put_part, splice_nil, splice_then, take_drop}
pub use Rattle.lists.specs.Laws.Rising.{bool_ext, iota_snoc, length_iota}
pub use Rattle.lists.specs.Laws.Rows.{length_flatten, widths}
pub use Rattle.lists.specs.Lists.{flatten, splice}

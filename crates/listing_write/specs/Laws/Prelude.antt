-- The names that the laws of this crate take from elsewhere, re-exported. It defines nothing of its own.
pub use Rattle.std.specs.Prelude.{◌*◌, ◌+◌, ◌-◌, ◌<◌, ◌≤◌, suc, zero, ℕ, Bool, ◌||◌, cond, false, not, true, List, [], ◌++◌, ◌∷◌, map, ◌≡◌, refl, eqb, leb, ltb, drop, get_or, length, take}
pub use Rattle.std.proofs.lemmas.Bool.{false≢true}
pub use Rattle.std.proofs.lemmas.Simd.{map-map}
pub use Rattle.std.proofs.Common.{inl, inr, ⊎_elim, ◌∙◌, ap, sym, mul-le-mul_right, arith, length-append, length-take, eqb-true, le-leb, le-ltb, lt-ltb, ltb-false}
pub use Rattle.std.proofs.Math.Option.{Option, some}
pub use Rattle.constraints.specs.Constraints.{is_live}
pub use Rattle.levels_text.specs.Laws.Decimals.{length_written}
pub use Rattle.levels_text.specs.Written.{text_line}
pub use Rattle.listing_spec.specs.Laws.Restored.{accepted_number, accepted_same}
pub use Rattle.listing_spec.specs.Laws.Texts.{RowsFit, fit_more, fit_none, listing_of_lem, parses_determined, row_of}
pub use Rattle.listing_write.specs.Writing.{ListingWritten, write_refusal}
pub use Rattle.lists.specs.Laws.All.{all_cons, all_head, all_tail, or_right, or_second}
pub use Rattle.lists.specs.Laws.Filter.{split}
pub use Rattle.lists.specs.Laws.Rows.{rows_of_widths}
pub use Rattle.lists.specs.Laws.Search.{take_put}
pub use Rattle.lists.specs.Lists.{flatten, splice}
pub use Rattle.plain_table.proofs.Laws.Calls.{first_refusal_no, first_refusal_rest}
pub use Rattle.plain_table.proofs.Laws.Proper.{Bounds}
pub use Rattle.plain_table.specs.Staged.{Opening}
pub use Rattle.refusals.specs.Laws.Determined.{Same}
pub use Rattle.refusals.specs.Laws.Replies.{some_number}
pub use Rattle.table.specs.Outcomes.{Represents, Stores}
pub use Rattle.table.proofs.Laws.Live.{length_rows_in, live_shown, row_of_cells}
pub use Rattle.table.proofs.Laws.Refusals.{outside_inside}
pub use Rattle.table.proofs.Laws.Shown.{represents_inside, represents_long}
pub use Rattle.table.specs.Numbers.{opening_of}
pub use Rattle.table.specs.Refusing.{outside, rows_short}
pub use Rattle.table.specs.declared.Header.{Header}

-- The names that the laws of this crate take from elsewhere, re-exported. It defines nothing of its own.
pub use Rattle.std.specs.Prelude.{◌%◌, ◌*◌, ◌+◌, ◌/◌, ◌<◌, ◌^◌, ◌≤◌, suc, zero, ℕ, Bool, ◌&&◌, ◌||◌, false, not, true, List, [], ◌++◌, ◌∷◌, map, ◌⊎◌, ◌≡◌, refl, eqb, ltb, drop, get_or, length, take}
pub use Rattle.std.proofs.lemmas.Bool.{false≢true}
pub use Rattle.std.proofs.Math.Bool.{or-false}
pub use Rattle.std.proofs.Common.{inl, inr, ⊎_elim, ◌∙◌, ap, sym, add-zero, div-lt_iff_lt-mul, mod-eq_of_lt, mod-lt, mul-le-mul_right, mul-lt-mul_of_pos_right, mul-zero, arith, length-drop, length-take, get_or-drop, get_or-take, eq-eqb, eqb-true, ltb-false, ne_eqb}
pub use Rattle.std.proofs.Math.Decide.{dec_le, ℕ_discrete}
pub use Rattle.std.proofs.Math.Nat.{div-eq_of_lt, mul-add-div_right, mul-add-mod_self_right}
pub use Rattle.std.proofs.Math.ListN.{get_or-append as List·getD-append}
pub use Rattle.constraints.specs.Constraints.{is_live}
pub use Rattle.lists.specs.Laws.All.{and_both, any_at, any_of, or_no_left, or_no_right}
pub use Rattle.lists.specs.Laws.Filter.{all_filter_of, all_of, and_left, and_right, filter_all, filter_same, split}
pub use Rattle.lists.specs.Laws.Parts.{splice_nil}
pub use Rattle.lists.specs.Laws.Rising.{bool_ext, elem_at, elem_of, elem_there, same_eq}
pub use Rattle.lists.specs.Laws.Rows.{row_in}
pub use Rattle.lists.specs.Lists.{elem, row_at}
pub use Rattle.plain_table.proofs.Laws.Calls.{first_refusal_no, first_refusal_rest}
pub use Rattle.plain_table.proofs.Laws.Proper.{Whole, openable_bounds}
pub use Rattle.plain_table.proofs.Laws.Refreshing.{live_wide, refreshed_whole}
pub use Rattle.plain_table.proofs.Laws.Rows.{no_row}
pub use Rattle.plain_table.specs.Plain.{Numbered, live_rows}
pub use Rattle.plain_table.specs.Refreshing.{Refresh, mentioning, refreshed}
pub use Rattle.plain_table.specs.Staged.{Staged, words_all}
pub use Rattle.refresh_spec.specs.Index.{IndexOf, IndexSound, columns_named, entries_under, rows_seen}
pub use Rattle.refusals.specs.Laws.Determined.{Same}
pub use Rattle.refusals.specs.Laws.Replies.{some_number}
pub use Rattle.refusals.specs.Refusals.{accepted}
pub use Rattle.table.specs.Outcomes.{Represents, Stores, body_of, joined, of_rows, stores}
pub use Rattle.table.proofs.Laws.Keeps.{SoundTable, shows_plain, represented_sound_table}
pub use Rattle.table.proofs.Laws.Live.{get_d_rows_in, length_rows_in, live_shown}
pub use Rattle.table.proofs.Laws.Replies.{reply_accepted, reply_refused}
pub use Rattle.table.proofs.Laws.Shown.{header_inside}
pub use Rattle.table.proofs.Laws.Sound.{largest_view_largest_of}
pub use Rattle.table.proofs.Laws.Staging.{records_represent}
pub use Rattle.table.specs.Numbers.{opening_of}
pub use Rattle.table.specs.Stores.{record_words, rows_in}
pub use Rattle.table.specs.declared.Header.{Header}

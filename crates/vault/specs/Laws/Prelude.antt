-- The names that the laws of this crate take from elsewhere, re-exported. It defines nothing of its own.
pub use Rattle.std.specs.Prelude.{◌%◌, ◌*◌, ◌+◌, ◌/◌, ◌<◌, ◌^◌, ◌≤◌, suc, zero, ℕ, true, List, [], ◌∷◌, map, ◌≡◌, refl, eqb, ltb, drop, get_or, length, take, Result, Ok}
pub use Rattle.std.proofs.Common.{append-nil, ⊎_elim, ◌∙◌, ap, ap₂, sym, div-add-mod', mul_comm, mul-div_cancel, zero-add, arith, ext_get_or, get_or-drop, take_all, eq-eqb, eqb-true, le-ltb, lt-ltb, ne_eqb}
pub use Rattle.std.proofs.Math.Decide.{dec_lt, ℕ_discrete}
pub use Rattle.std.proofs.Math.ListN.{get_or-eq_default as List·getD-eq-default}
pub use Rattle.std.proofs.lemmas.List.{length-map}
pub use Rattle.lists.specs.Laws.All.{all_cons, all_head, all_tail, get_d_map_below}
pub use Rattle.lists.specs.Laws.Filter.{all_get_d}
pub use Rattle.lists.specs.Laws.Parts.{part_splice}
pub use Rattle.lists.specs.Laws.Rising.{get_d_iota, length_iota}
pub use Rattle.lists.specs.Laws.Rows.{flatten_rows_of, get_d_row_at, get_d_rows_of, length_flatten, length_rows_of, rows_of_flatten, rows_of_widths, widths}
pub use Rattle.lists.specs.Lists.{flatten, rows_of}
pub use Rattle.refusals.specs.Laws.Determined.{Same}
pub use Rattle.refusals.specs.Laws.Replies.{some_number}
pub use Rattle.refusals.specs.declared.Refusal.{Refusal}

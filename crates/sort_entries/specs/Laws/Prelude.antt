-- The names that the laws of this crate take from elsewhere, re-exported. It defines nothing of its own.
pub use Rattle.std.specs.Prelude.{◌*◌, ◌+◌, ◌-◌, ◌<◌, ◌≤◌, suc, zero, ℕ, Bool, ◌&&◌, cond, false, true, List, [], ◌++◌, ◌∷◌, map, ◌≡◌, refl, eqb, leb, ltb, drop, get_or, length, take}
pub use Rattle.std.proofs.Common.{suc-le-suc, true≢false, append_assoc, append-nil, inl, inr, ◌∙◌, ap, ap₂, sym, add-zero, zero-add, add-one, arith, drop_of_length-le, length-append, length-drop, drop-cons, ext_get_or, get_or-drop, get_or-take, length-take-le, take-add, take-suc, eq-eqb, eqb-true, le-leb, le-ltb, leb-true, lt-ltb, ltb-false, ltb-true, ne_eqb}
pub use Rattle.std.proofs.Math.Option.{Option, none, some}
pub use Rattle.std.proofs.Math.Decide.{dec_lt, ℕ_discrete}
pub use Rattle.std.proofs.Math.ListN.{get_or-map as List·getD-map}
pub use Rattle.std.proofs.lemmas.List.{length-map}
pub use Rattle.std.proofs.Math.Seq.{take-length}
pub use Rattle.std.proofs.lemmas.Bool.{lt-leb}
pub use Rattle.constraints.specs.Constraints.{is_live}
pub use Rattle.lists.specs.Laws.All.{all_cons, all_head, all_snoc, all_tail, all_weaker}
pub use Rattle.lists.specs.Laws.Filter.{all_get_d, all_of, and_left, and_right, split}
pub use Rattle.lists.specs.Laws.Parts.{get_d_splice_in, take_splice}
pub use Rattle.lists.specs.Laws.Rising.{above_cons, above_head, above_tail, above_weaker, bool_ext, get_d_iota, length_iota, rising_at, rising_of, rising_tail, within_below, within_of, within_past}
pub use Rattle.lists.specs.Lists.{above, elem, iota, row_at, within}
pub use Rattle.sort_entries.specs.Entries.{Entry, value_at}

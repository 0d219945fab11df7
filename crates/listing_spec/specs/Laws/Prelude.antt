-- The names that the laws of this crate take from elsewhere, re-exported. It defines nothing of its own.
pub use Rattle.std.specs.Prelude.{◌%◌, ◌*◌, ◌+◌, ◌-◌, ◌/◌, ◌<◌, ◌^◌, ◌≤◌, suc, zero, ℕ, Bool, ◌&&◌, ◌||◌, cond, false, not, true, List, [], ◌++◌, ◌∷◌, map, ◌≡◌, refl, eqb, leb, ltb, drop, get_or, length, take}
pub use Rattle.std.proofs.Math.Bool.{and-false}
pub use Rattle.std.proofs.lemmas.Bool.{false≢true, eqb-false}
pub use Rattle.std.proofs.Common.{append_assoc, append-nil, inl, inr, ⊎_elim, ◌∙◌, ap, ap₂, subst, sym, zero-add, arith, length-append, get_or-take, length-take-le, take_all, take_at, take-suc, eq-eqb, eqb-true, le-leb, le-ltb, leb-true, lt-ltb, ltb-true, ne_eqb}
pub use Rattle.std.proofs.Math.Option.{Option, none, some}
pub use Rattle.std.proofs.Math.Decide.{dec_lt}
pub use Rattle.std.proofs.Math.Nat.{pow-succ'}
pub use Rattle.std.proofs.Math.ListN.{get_or-append as List·getD-append, get_or-eq_default as List·getD-eq-default}
pub use Rattle.std.proofs.lemmas.List.{length-map, get_or_at}
pub use Rattle.levels_text.specs.Laws.Decimals.{fields_more, length_fields, length_line}
pub use Rattle.levels_text.specs.Laws.Digits.{digit, digit_byte}
pub use Rattle.levels_text.specs.Laws.Reads.{decimal_read, decimal_value}
pub use Rattle.levels_text.specs.Lines.{is_line, letter, numbers}
pub use Rattle.levels_text.specs.Written.{field, text_line}
pub use Rattle.lists.specs.Laws.All.{all_cons, all_head, all_snoc, all_tail}
pub use Rattle.lists.specs.Laws.Filter.{all_get_d, all_of, and_left, and_right, split}
pub use Rattle.lists.specs.Laws.Rising.{bool_ext, elem_append, elem_at, elem_iota, elem_of, get_d_iota, length_iota, rising_ext, rising_gap, rising_iota, within_high, within_of}
pub use Rattle.lists.specs.Laws.Search.{take_put}
pub use Rattle.refusals.specs.Laws.Determined.{Same}
pub use Rattle.refusals.specs.Laws.Replies.{some_number}
pub use Rattle.refusals.specs.Refusals.{Reply}

-- The names that the laws of this crate take from elsewhere, re-exported. It defines nothing of its own.
pub use Rattle.std.specs.Prelude.{◌%◌, ◌*◌, ◌+◌, ◌-◌, ◌/◌, ◌<◌, ◌^◌, ◌≤◌, suc, zero, ℕ, Bool, ◌&&◌, ◌||◌, false, not, true, List, [], ◌++◌, ◌∷◌, map, ◌≡◌, refl, eqb, leb, ltb, drop, get_or, length, take}
pub use Rattle.std.proofs.Math.Bool.{and-false, or-false, or-true}
pub use Rattle.std.proofs.lemmas.Bool.{false≢true, eqb-false, lt-leb}
pub use Rattle.std.proofs.Common.{append-nil, inl, inr, ◌∙◌, ap, sym, mod-eq_of_lt, mod-lt, add-one, arith, drop_of_length-le, length-append, length-drop, drop-cons, drop-drop, eq-eqb, eqb-true, le-leb, le-ltb, leb-false, leb-true, lt-ltb, ltb-false, ltb-true, ne_eqb}
pub use Rattle.std.proofs.lemmas.List.{map-append}
pub use Rattle.std.proofs.Math.Nat.{one-le-pow, pow-le-pow_right, pow-succ'}
pub use Rattle.std.proofs.Math.ListN.{get_or-append as List·getD-append}
pub use Rattle.io.specs.Digits.{IsDigitCount as Fewest, last_digits as digits, hex_digit_ascii as glyph}
pub use Rattle.lists.specs.Laws.Filter.{and_left, and_right, split}
pub use Rattle.lists.specs.Laws.All.{all_head}
pub use Rattle.lists.specs.Laws.Rows.{flatten_append}

-- The names that the laws of this crate take from elsewhere, re-exported. It defines nothing of its own.
pub use Rattle.std.specs.Prelude.{◌+◌, ◌/◌, ◌<◌, ◌≤◌, max, suc, zero, ℕ, Bool, ◌&&◌, ◌||◌, cond, false, not, true, ◌⊎◌, ◌≡◌, refl, eqb, leb, ltb, drop, get_or, length, set, take}
pub use Rattle.std.proofs.Common.{suc-le-suc, inl, inr, ◌∙◌, ap, ap₂, subst, sym, add-zero, arith, drop_of_length-le, length-append, length-drop, length-set, length-take-le, eq-eqb, eqb-true, le-leb, le-ltb, leb-false, leb-true, lt-ltb, ltb-false, ltb-true, ne_eqb}
pub use Rattle.std.specs.Bool.{beq as Bool·beq}
pub use Rattle.std.proofs.lemmas.Bool.{false≢true, eqb-false, not-false, not-true}
pub use mathlib.Core.List.{List, [], ◌++◌, ◌∷◌, append_assoc, append-nil, foldl, map, map-append}
pub use Rattle.std.proofs.Math.Option.{Option, map as Option·map, none, some}
pub use Rattle.std.proofs.Math.Decide.{dec_lt, ℕ_discrete}
pub use Rattle.std.proofs.Math.Nat.{le-max_left, le-max_right, max-eq_left, max-eq_right}
pub use Rattle.std.proofs.Math.ListN.{get_or-append as List·getD-append}
pub use Rattle.std.proofs.lemmas.List.{length-map, drop-append-le, get_or_at}
pub use Rattle.lists.specs.Laws.All.{all_append, all_cons, all_head, all_snoc, all_tail, all_weaker, and_both, count_not, filter_again, or_no_left, or_no_right, or_right, or_second}
pub use Rattle.lists.specs.Laws.Filter.{all_filter, all_filter_of, all_get_d, all_of, and_left, and_right, count_le, count_split, filter_append, length_filter, split}
pub use Rattle.lists.specs.Laws.Rising.{same_eq, same_refl}
pub use Rattle.merge_rules.specs.Laws.Rules.{made_first, made_keys, made_length, ruled_made}
pub use Rattle.merge_rules.specs.Rules.{changes_from, made_from, ruled}
pub use Rattle.plain_table.specs.Plain.{Plain}
pub use Rattle.plain_table.specs.Proper.{Proper, row_of}
pub use Rattle.plain_table.specs.Refusing.{Lengths}
pub use Rattle.plain_table.specs.Staged.{Opening, Staged, has_key, insert, inserts, remove_key, remove_row, skipped}
pub use Rattle.refusals.specs.Refusals.{accepted}

-- The names that the laws of this crate take from elsewhere, re-exported. It defines nothing of its own.
pub use Rattle.std.specs.Prelude.{◌%◌, ◌*◌, ◌+◌, ◌-◌, ◌/◌, ◌<◌, ◌^◌, ◌≤◌, min, suc, zero, ℕ, Bool, ◌&&◌, ◌||◌, cond, false, true, List, ◌≡◌, refl, eqb, leb, get_or, length, replicate}
pub use Rattle.std.proofs.lemmas.Bool.{false≢true, lt-leb}
pub use Rattle.std.proofs.Common.{inl, inr, ◌∙◌, ap, sym, add_assoc, add-zero, mod-eq_of_lt, pow-suc, one-add, arith, pow_pos, eq-eqb, eqb-true, le-leb, ne_eqb}
pub use Rattle.std.proofs.Math.Decide.{dec_lt}
pub use Rattle.std.specs.Int.Bits.{and_self, and_step, bit_and}
pub use Rattle.std.proofs.lemmas.List.{get_or-replicate, length-replicate}
pub use Rattle.std.proofs.lemmas.Nat.{mod-pow-add}
pub use Rattle.lists.specs.Laws.All.{or_right, or_second}
pub use Rattle.lists.specs.Laws.Filter.{split}

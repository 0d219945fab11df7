-- The names that the laws of this crate take from elsewhere, re-exported. It defines nothing of its own.
pub use Rattle.std.specs.Prelude.{◌%◌, ◌+◌, ◌-◌, ◌<◌, ◌≤◌, min, suc, zero, ℕ, Bool, ◌&&◌, cond, false, not, true, List, [], ◌∷◌, ◌≡◌, refl, eqb, leb, ltb, negsuc, pos, ℤ, drop, get_or, length, take, ◌≤ℤ◌}
pub use Rattle.std.proofs.Common.{true≢false, inl, inr, ◌∙◌, ap, subst, sym, add-zero, arith, leb→le, le→leb, length-drop, length-take, ext_get_or, get_or-take, eq-eqb, le-leb, le-ltb, lt-ltb, ne_eqb}
pub use Rattle.std.proofs.Math.Option.{none, some}
pub use Rattle.std.proofs.Math.Decide.{dec_lt, ℕ_discrete}
pub use Rattle.std.specs.Int.Signed.{le_z_yes, lt_z}
pub use Rattle.std.proofs.lemmas.Bool.{lt-leb}
pub use Rattle.lists.specs.Laws.Filter.{split}
pub use Rattle.lists.specs.Laws.Rising.{same_ne, same_refl}
pub use Rattle.lists.specs.Lists.{same}

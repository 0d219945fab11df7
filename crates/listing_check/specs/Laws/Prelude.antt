-- The names that the laws of this crate take from elsewhere, re-exported. It defines nothing of its own.
pub use Rattle.std.specs.Prelude.{◌+◌, ◌-◌, ◌<◌, ◌≤◌, min, suc, zero, ℕ, Bool, ◌&&◌, ◌||◌, false, not, true, ◌⊎◌, ◌≡◌, refl, eqb, drop, get_or, length}
pub use Rattle.std.proofs.lemmas.Bool.{false≢true}
pub use mathlib.Core.List.{List, [], ◌∷◌, foldl, map}
pub use Rattle.std.proofs.Common.{inl, inr, ◌∙◌, ap, sym, arith, le-ltb, lt-ltb}
pub use Rattle.std.proofs.Math.Option.{Option, none, some}
pub use Rattle.std.proofs.Math.Decide.{dec_lt, ℕ_discrete}
pub use Rattle.std.proofs.Math.Nat.{min-eq_left, min-eq_right, min-le_left, min-le_right}
pub use Rattle.constraints.specs.Constraints.{met}
pub use Rattle.constraints.specs.declared.Constraint.{Constraint}
pub use Rattle.listing_check.specs.declared.Mistake.{Mistake}
pub use Rattle.listing_check.specs.declared.Mistake.TheVariants.{Misplaced, Wrong}
pub use Rattle.listing_spec.specs.Laws.Texts.{listing_parts, parses_determined, rising_from_lem}
pub use Rattle.lists.specs.Laws.All.{or_right}
pub use Rattle.lists.specs.Laws.Filter.{split}
pub use Rattle.lists.specs.Laws.Rising.{above_cons, above_head, above_rising, above_tail, above_weaker, elem_append, elem_filter, elem_here, elem_there, rising_at, rising_ext}

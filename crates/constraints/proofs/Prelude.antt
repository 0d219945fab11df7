-- The names that the proofs of this crate take from elsewhere, re-exported. It defines nothing of its own.
pub use Prim.Native.Nat.{◌+◌, ◌<◌, ◌≤◌, suc, ℕ}
pub use mathlib.Core.Bool.{Bool, beq as Bool·beq, ◌&&◌, ◌||◌, cond, false, true}
pub use mathlib.Core.List.{List, [], ◌++◌, ◌∷◌}
pub use mathlib.Core.Logic.{inl, inr, ⊎_elim}
pub use mathlib.Core.Path.{◌∙◌, ◌≡◌, ap, refl, sym}
pub use native.Mathlib.Decide.{ℕ_discrete}
pub use native.Mathlib.Omega.{arith}
pub use lib.Dec.{eqb, leb, ltb}
pub use lib.ListN.{get_or, length, length-set, set, take}
pub use lib.Seq.{take-suc-set}
pub use borrow.Author.Tests.{eq-eqb, eqb-false, eqb-true, le-leb, le-ltb, lt-leb, ltb-false, ltb-true, ne_eqb}
pub use Rattle.constraints.specs.Encoding.{condition_in, conditions_in}
pub use Rattle.constraints.specs.Laws.Encoding.{more_in, none_in}
pub use Rattle.constraints.specs.declared.Constraint.{Constraint}
pub use Rattle.lists.specs.Laws.All.{or_no_left, or_no_right}
pub use Rattle.lists.specs.Laws.Filter.{split}

-- The ways through `met` and `meets`. Assumes nothing.
use Rattle.constraints.proofs.Prelude.{ℕ, ◌≡◌, refl, inl, inr, Bool, true, false, cond, ◌&&◌, List, [], ◌∷◌, eqb, get_or, split, Constraint}
use Rattle.lists.specs.Lists.{all}
use Rattle.constraints.specs.Constraints.{compares, met, is_live, meets}

and-true : (b : Bool) → (b && true) ≡ b
and-true true = refl
and-true false = refl

pub meets_live : (row : List ℕ) (c : Constraint) → is_live row ≡ true → meets row (c ∷ []) ≡ met row c
unfolding meets all
meets_live row c e = rw e (and-true (met row c))

pub meets_dead : (row : List ℕ) (c : Constraint) → is_live row ≡ false → meets row (c ∷ []) ≡ false
unfolding meets
meets_dead row c e = rw e

-- kind 0 compares with a cell, the others with the value
pub met_by : (row : List ℕ) (c : Constraint) (first other : ℕ) → first ≡ get_or row c.column 0 → other ≡ cond (eqb c.kind 0) (get_or row c.value 0) c.value
    → cond (eqb c.kind 0) (eqb first other) (compares c.kind first other) ≡ met row c
unfolding met
met_by row c first other p q =
    elim (split (eqb c.kind 0)) [
      | inl e ↦ rw (p, q, e) refl
      | inr e ↦ rw (p, q, e) refl
    ]

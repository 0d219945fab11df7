-- `offsets::Subset::bounds` meets its contract. Assumes nothing.
use Rattle.std.specs.Prelude.{Some, None}
use Rattle.offsets.proofs.Prelude.{ℕ, suc, ◌+◌, ◌-◌, ◌≡◌, refl, sym, ◌∙◌, List, [], ◌∷◌, arith, length, get_or, bounds}
use borrow.Author.Tests.{eqb-true, eqb-false}
use Rattle.offsets.specs.Subsets.{list, end_of}
use Rattle.offsets.specs.Laws.Subsets.{range_is, list_is}
use Rattle.offsets.proofs.Subset.bounds.Goals as goal

bounds_none : (ids : List ℕ) → length ids ≡ 0 → None ≡ bounds (list ids)
bounds_none [] h = unfold bounds in refl
bounds_none (x ∷ xs) h = absurd (omega arith)

bounds_some : (ids : List ℕ) → (length ids ≡ 0 → ⊥) → Some (record { start = get_or ids 0 0; end = get_or ids (length ids - 1) 0 + 1 }) ≡ bounds (list ids)
unfolding bounds end_of
bounds_some [] h = absurd (h refl)
bounds_some (x ∷ xs) h = let k : suc (length xs) - 1 ≡ length xs = omega arith in rw k

pub returns-in-Range : goal.returns-in-Range
unfolding bounds
returns-in-Range c = rw (c.in-Range.is, range_is, c.from.ensures, c.from-in-Range.ensures)

pub returns-then-is_empty : goal.returns-then-is_empty
returns-then-is_empty c = rw (c.in-List.is, list_is) (bounds_none _ (eqb-true _ _ (sym c.is_empty.ensures ∙ c.if-is_empty.true)))

pub returns-else-is_empty : goal.returns-else-is_empty
returns-else-is_empty c =
    rw (c.in-List.is, list_is, c.from-in-List.ensures, c.from-in-List-2.ensures) (bounds_some _ (eqb-false _ _ (sym c.is_empty.ensures ∙ c.if-is_empty.false)))

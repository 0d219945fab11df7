use Rattle.precedence.proofs.Prelude.{refl, sym, ◌∙◌, arith}
use Rattle.precedence.proofs.Steps.{RowInStore, row_in_store, pair_fails, pair_met, pairs_end, dead_row_lem, place_fails, place_meets}
use Rattle.precedence.proofs.failing_pair.Goals.{Start}
use Rattle.precedence.proofs.failing_pair.Goals as goal

lies : (s : Start) → RowInStore s.args.h s.args.rows.now s.args.row
lies s = row_in_store _ _ _ s.requires.0 _ s.requires.2

pub is_dead-requires : goal.is_dead-requires
is_dead-requires c = omega (arith, lies (goal.at.is_dead-requires c).Start)

pub returns-then-is_dead : goal.returns-then-is_dead
returns-then-is_dead c = λ sound differ. dead_row_lem _ _ _ _ _ _ (rw c.row_start-from.ensures at c.is_dead.ensures) (lies (goal.at.returns-then-is_dead c).Start).some_columns c.if-is_dead.true _

pub loop-place-init : goal.loop-place-init
loop-place-init c = λ sound differ. refl

pub returns-then-not-meets_pair : goal.returns-then-not-meets_pair
returns-then-not-meets_pair c =
    λ sound differ. place_fails _ _ _ _ _ _ (rw c.row_start-from.ensures at c.is_dead.ensures) (lies (goal.at.returns-then-not-meets_pair c).Start).some_columns c.if-is_dead.false _ _ c.loop-place-test.true (c.loop-place.invariant sound differ) (pair_fails _ _ _ _ _ _ c.loop-place-test.true (sym (c.meets_pair.ensures sound differ) ∙ c.if-not-meets_pair.true))

pub loop-place-preserved : goal.loop-place-preserved
loop-place-preserved c = λ sound differ. sym (pair_met _ _ _ _ _ _ c.loop-place-test.true (sym (c.meets_pair.ensures sound differ) ∙ c.if-not-meets_pair.false)) ∙ c.loop-place.invariant sound differ

pub returns : goal.returns
returns c = λ sound differ. place_meets _ _ _ _ _ _ (rw c.row_start-from.ensures at c.is_dead.ensures) (lies (goal.at.returns c).Start).some_columns c.if-is_dead.false _ _ (c.loop-place.invariant sound differ) (pairs_end _ _ _ _ _ _ c.loop-place-test.false)

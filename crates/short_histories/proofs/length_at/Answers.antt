use Rattle.short_histories.proofs.Prelude.{arith}
use Rattle.short_histories.proofs.LoopSteps.{steps_short, steps_ended, length_back}
use Rattle.short_histories.proofs.length_at.Goals as goal

pub loop-rest-init : goal.loop-rest-init
loop-rest-init c = (c.requires, omega arith)

pub overflow_add-steps : goal.overflow_add-steps
overflow_add-steps c = omega (arith, c.loop-rest.invariant.1, steps_short _ c.requires)

pub loop-rest-smaller : goal.loop-rest-smaller
loop-rest-smaller c = omega (arith, c.loop-rest-test.true)

pub loop-rest-preserved : goal.loop-rest-preserved
loop-rest-preserved c = let i = c.loop-rest.invariant in (omega (arith, i.0), omega (arith, i.1, length_back _ c.loop-rest-test.true i.0))

pub returns : goal.returns
returns c = let e = steps_ended _ _ _ c.loop-rest.invariant.1 c.loop-rest-test.false in (e, omega (arith, e, steps_short _ c.requires))

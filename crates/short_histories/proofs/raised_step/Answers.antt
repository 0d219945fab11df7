-- `short_histories::raised_step` meets its contract. Assumes nothing.
use Rattle.short_histories.proofs.Prelude.{arith}
use Rattle.short_histories.proofs.RaisingSteps.{step_behind, step_kept, step_raised, step_few}
use Rattle.short_histories.proofs.raised_step.Goals as goal

pub returns-then-end-at : goal.returns-then-end-at
returns-then-end-at c = step_behind _ _ _ c.requires.ended.inside c.if-end-at.true

pub returns-then-at-end : goal.returns-then-at-end
returns-then-at-end c = step_kept _ _ _ c.requires.ended.inside c.if-at-end.true

pub overflow_add-result : goal.overflow_add-result
overflow_add-result c = omega (arith, step_few c.args.sequence.now c.args.at c.requires.is_known (omega (arith, c.if-end-at.false, c.requires.ended.inside)))

pub returns : goal.returns
returns c = step_raised _ _ _ c.requires.ended.inside c.if-end-at.false c.if-at-end.false

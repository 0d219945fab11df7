use Rattle.short_histories.proofs.LoopSteps.{writing_begun, some_left, writing_on, writing_ended}
use Rattle.short_histories.proofs.write_sequence.Goals as goal

pub loop-at-init : goal.loop-at-init
loop-at-init c = let p = c.requires in writing_begun _ _ _ p.0 p.1 p.2

pub overflow_sub-output : goal.overflow_sub-output
overflow_sub-output c = some_left c.loop-at.invariant c.loop-at-test.true

pub overflow_sub-rest : goal.overflow_sub-rest
overflow_sub-rest c = some_left c.loop-at.invariant c.loop-at-test.true

pub loop-at-preserved : goal.loop-at-preserved
loop-at-preserved c = writing_on c.loop-at.invariant c.loop-at-test.true

pub returns : goal.returns
returns c = writing_ended c.loop-at.invariant c.loop-at-test.false

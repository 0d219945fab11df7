use Rattle.offsets.proofs.Prelude.{arith}
use Rattle.offsets.proofs.SearchSteps.{stride_more, stride_over, stride_end}
use Rattle.offsets.proofs.search.gallop.Goals as goal

pub loop-step-init : goal.loop-step-init
loop-step-init c = record { few = c.requires.0; whole = omega arith; inside = omega arith; on = omega arith; bound = omega arith; behind = c.requires.2 }

pub returns-then-id-target : goal.returns-then-id-target
returns-then-id-target c = record { inside = omega arith; hit = c.if-id-target.true }

pub returns-then-target-id : goal.returns-then-target-id
returns-then-target-id c = stride_over _ _ _ _ _ c.loop-step.invariant c.loop-step-test.true (omega arith)

pub loop-step-preserved : goal.loop-step-preserved
loop-step-preserved c = stride_more _ _ _ _ _ c.loop-step.invariant c.loop-step-test.true (omega arith)

pub returns : goal.returns
returns c = stride_end _ _ _ _ _ c.loop-step.invariant

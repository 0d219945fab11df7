use Rattle.short_histories.proofs.Prelude.{◌+◌, sym, ◌∙◌, arith, position_below, position_nothing}
use Rattle.short_histories.proofs.LoopSteps.{position_on, position_end, prefix_below}
use Rattle.short_histories.proofs.known_position.Goals as goal

pub loop-step-init : goal.loop-step-init
loop-step-init c = sym position_nothing

pub overflow_mul-position : goal.overflow_mul-position
overflow_mul-position c = omega (arith, c.loop-step.invariant, prefix_below _ c.requires c.loop-step.step-index)

pub overflow_add-position : goal.overflow_add-position
overflow_add-position c = omega (arith, c.loop-step.invariant, position_on _ c.requires _ c.loop-step-test.true, prefix_below _ c.requires (c.loop-step.step-index + 1))

pub overflow_add-position-in-loop-step : goal.overflow_add-position-in-loop-step
overflow_add-position-in-loop-step c = omega (arith, c.loop-step.invariant, position_on _ c.requires _ c.loop-step-test.true, prefix_below _ c.requires (c.loop-step.step-index + 1))

pub loop-step-preserved : goal.loop-step-preserved
loop-step-preserved c = omega (arith, c.loop-step.invariant, position_on _ c.requires _ c.loop-step-test.true)

pub returns : goal.returns
returns c = let e = c.loop-step.invariant ∙ position_end _ c.requires _ c.loop-step.auto.step-index-end c.loop-step-test.false in (e, omega (arith, e, position_below _ c.requires))

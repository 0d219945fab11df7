use Rattle.offsets.proofs.Rising.{onward_begin, block_length, onward_more}
use Rattle.offsets.proofs.past_small_steps.Goals as goal

pub loop-at-init : goal.loop-at-init
loop-at-init c = onward_begin _

pub rises_by_small_steps-requires : goal.rises_by_small_steps-requires
rises_by_small_steps-requires c = block_length c.args.ids.now c.loop-at.at 128 c.loop-at-test.true

pub returns-then-not-rises_by_small_steps : goal.returns-then-not-rises_by_small_steps
returns-then-not-rises_by_small_steps c = c.loop-at.invariant

pub loop-at-preserved : goal.loop-at-preserved
loop-at-preserved c = onward_more _ _ _ c.loop-at.invariant c.loop-at-test.true (c.rises_by_small_steps.ensures c.if-not-rises_by_small_steps.false)

pub returns : goal.returns
returns c = c.loop-at.invariant

use Rattle.levels.proofs.Prelude.{running_begin, running_again, run_ends}
use Rattle.levels.proofs.run.Goals as goal

pub loop-stdin-init : goal.loop-stdin-init
loop-stdin-init c = running_begin _ _ _ _ _ _ c.no_table.ensures c.first_read.ensures

pub step-made-requires : goal.step-made-requires
step-made-requires c = c.loop-stdin.invariant.within

pub finish-requires : goal.finish-requires
finish-requires c = c.step-made.ensures.turned.within.text_in

pub returns-then-made : goal.returns-then-made
returns-then-made c = run_ends _ _ _ _ _ _ _ _ c.loop-stdin.invariant c.step-made.ensures.turned c.if-made.true c.finish.ensures

pub loop-stdin-smaller : goal.loop-stdin-smaller
loop-stdin-smaller c = c.step-made.ensures.shorter.shorter c.if-made.false

pub loop-stdin-preserved : goal.loop-stdin-preserved
loop-stdin-preserved c = running_again c.loop-stdin.invariant c.step-made.ensures.turned c.if-made.false

use Rattle.merge_pending.proofs.PassRecords.{run_begin, run_again}
use Rattle.merge_pending.proofs.after_run.Goals as goal

pub loop-at-init : goal.loop-at-init
loop-at-init c = run_begin c.requires.1

pub returns-then-pending-at : goal.returns-then-pending-at
returns-then-pending-at c = c.loop-at.invariant

pub loop-at-preserved : goal.loop-at-preserved
loop-at-preserved c = run_again c.requires.2 c.loop-at.invariant c.if-pending-at.false c.loop-at-test.true

pub returns : goal.returns
returns c = c.loop-at.invariant

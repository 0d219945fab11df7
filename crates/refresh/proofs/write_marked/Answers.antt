use Rattle.refresh.proofs.StageSteps.{written_none, iteration_begin, iteration_end, iteration_group, iteration_on}
use Rattle.refresh.proofs.write_marked.Goals as goal

pub returns-then-count-eq0 : goal.returns-then-count-eq0
returns-then-count-eq0 c = record { on = λ s. written_none _ s c.if-count-eq0.true }

pub loop-group-init : goal.loop-group-init
loop-group-init c = λ s. iteration_begin _ s

pub write_group-used-requires : goal.write_group-used-requires
write_group-used-requires c = let s = c.requires in iteration_group _ s (c.loop-group.invariant s) c.loop-group-test.true

pub loop-group-preserved : goal.loop-group-preserved
loop-group-preserved c = λ s. iteration_on _ s (c.loop-group.invariant s) c.loop-group-test.true c.write_group-used.ensures

pub returns : goal.returns
returns c = record { on = λ s. iteration_end _ s (c.loop-group.invariant s) c.loop-group-test.false }

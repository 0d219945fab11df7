use Rattle.offsets.proofs.Rising.{tested_begin, tested_more, tested_all}
use Rattle.offsets.proofs.rises_pairwise.Goals as goal

pub loop-i-init : goal.loop-i-init
loop-i-init c = tested_begin _

pub loop-i-preserved : goal.loop-i-preserved
loop-i-preserved c = tested_more _ _ _ c.loop-i.invariant c.loop-i-test.true

pub returns : goal.returns
returns c = tested_all _ _ _ c.loop-i.invariant c.loop-i-test.false

use Rattle.offsets.proofs.Grow.{filled_begin, filled_more, filled_end}
use Rattle.offsets.proofs.retain.fill_from_dense.Goals as goal

pub loop-i-init : goal.loop-i-init
loop-i-init c = filled_begin _ _ _

pub loop-i-preserved : goal.loop-i-preserved
loop-i-preserved c = filled_more _ _ _ _ _ c.requires.1 c.loop-i.invariant c.loop-i-test.true

pub shape_of-output : goal.shape_of-output
shape_of-output c = c.loop-i.invariant.same

pub returns : goal.returns
returns c = filled_end _ _ _ _ _ c.loop-i.invariant c.loop-i-test.false

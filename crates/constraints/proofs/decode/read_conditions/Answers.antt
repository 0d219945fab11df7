use Rattle.constraints.proofs.Prelude.{refl}
use Rattle.constraints.proofs.ReadSteps.{reading_begin, reading_again, reading_end}
use Rattle.constraints.proofs.decode.read_conditions.Goals as goal

pub loop-i-init : goal.loop-i-init
loop-i-init c = reading_begin refl

pub loop-i-preserved : goal.loop-i-preserved
loop-i-preserved c = reading_again c.requires.0 c.loop-i-test.true c.loop-i.invariant c.read_condition.ensures

pub returns : goal.returns
returns c = reading_end c.loop-i.invariant c.loop-i-test.false

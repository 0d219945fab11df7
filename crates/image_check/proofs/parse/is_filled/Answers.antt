-- `image_check::parse::is_filled` meets its contract. Assumes nothing.
use Rattle.image_check.proofs.ParsingSteps.{fill_none, fill_one, fill_two, fill_three}
use Rattle.image_check.proofs.parse.is_filled.Goals as goal

pub returns-then-over-eq0 : goal.returns-then-over-eq0
returns-then-over-eq0 c = fill_none _ _ c.requires c.if-over-eq0.true

pub returns-then-over-eq1 : goal.returns-then-over-eq1
returns-then-over-eq1 c = fill_one _ _ c.requires c.if-over-eq1.true

pub returns-then-over-eq2 : goal.returns-then-over-eq2
returns-then-over-eq2 c = fill_two _ _ c.requires c.if-over-eq2.true

pub returns : goal.returns
returns c = fill_three _ _ c.requires c.if-over-eq0.false c.if-over-eq1.false c.if-over-eq2.false

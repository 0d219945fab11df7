-- `offsets::search::scan_at` meets its contract. Assumes nothing.
use Rattle.offsets.proofs.SearchSteps.{at_end, at_hit, at_miss}
use Rattle.offsets.proofs.search.scan_at.Goals as goal

pub returns-then-ids-at : goal.returns-then-ids-at
returns-then-ids-at c = at_end _ _ _ c.requires c.if-ids-at.true

pub returns-then-ids-at-2 : goal.returns-then-ids-at-2
returns-then-ids-at-2 c = at_hit _ _ _ c.if-ids-at.false c.if-ids-at-2.true

pub returns : goal.returns
returns c = at_miss _ _ _ c.requires c.if-ids-at-2.false

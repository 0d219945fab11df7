-- `offsets::search::scan_for_offset` meets its contract. Assumes nothing.
use Rattle.offsets.proofs.Prelude.{arith, not_below_past}
use Rattle.offsets.proofs.SearchSteps.{scanned_end, scanned_hit, scanned_before}
use Rattle.offsets.proofs.search.scan_for_offset.Goals as goal

pub returns-then-ids-start : goal.returns-then-ids-start
returns-then-ids-start c = scanned_end _ _ _ c.if-ids-start.true

pub returns-then-id-target : goal.returns-then-id-target
returns-then-id-target c = scanned_hit _ _ _ _ c.if-ids-start.false c.if-id-target.true

pub returns-then-target-id : goal.returns-then-target-id
returns-then-target-id c = scanned_before _ _ _ c.if-ids-start.false c.if-target-id.true

pub gallop-requires : goal.gallop-requires
gallop-requires c = (c.requires, c.if-ids-start.false, λ e. not_below_past _ _ e _ c.if-ids-start.false (omega arith))

pub returns-in-Ok : goal.returns-in-Ok
returns-in-Ok c = scanned_hit _ _ _ _ c.in-Ok.ensures.inside c.in-Ok.ensures.hit

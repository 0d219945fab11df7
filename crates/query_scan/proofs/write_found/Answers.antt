-- `query_scan::write_found` meets its contract. Assumes nothing.
use Rattle.query_scan.proofs.ScanSteps.{can_fill, wrote_range, wrote_list}
use Rattle.query_scan.proofs.write_found.Goals as goal

pub fill_from_dense-requires : goal.fill_from_dense-requires
fill_from_dense-requires c = can_fill _ _ c.requires c.if-g-eq0.true

pub returns-then-g-eq0 : goal.returns-then-g-eq0
returns-then-g-eq0 c = wrote_range _ _ _ c.if-g-eq0.true c.fill_from_dense.ensures

pub returns-else-g-eq0 : goal.returns-else-g-eq0
returns-else-g-eq0 c = wrote_list _ _ c.if-g-eq0.false

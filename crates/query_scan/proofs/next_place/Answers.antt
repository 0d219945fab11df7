-- `query_scan::next_place` meets its contract. Assumes nothing.
use Rattle.query_scan.proofs.Prelude.{arith}
use Rattle.query_scan.proofs.PageSteps.{next_some, next_none}
use Rattle.query_scan.proofs.next_place.Goals as goal

pub returns-then-next-size : goal.returns-then-next-size
returns-then-next-size c = next_some _ _ (omega (arith, c.size.ensures, c.if-next-size.true))

pub returns : goal.returns
returns c = next_none _ _ (omega (arith, c.size.ensures, c.if-next-size.false))

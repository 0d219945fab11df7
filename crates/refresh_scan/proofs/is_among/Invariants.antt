-- `refresh_scan::is_among` meets its contract. Assumes nothing.
use Rattle.refresh_scan.proofs.Links.{LinkScan}
use Rattle.refresh_scan.proofs.is_among.Given as goal

abbrev pub invariant-loop-link : goal.invariant-loop-link
invariant-loop-link l = LinkScan l.values l.value l.link

abbrev pub decreases-loop-link : goal.decreases-loop-link
decreases-loop-link l = l.link

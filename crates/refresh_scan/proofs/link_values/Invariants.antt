-- `refresh_scan::link_values` meets its contract. Assumes nothing.
use Rattle.refresh_scan.proofs.Prelude.{Linked}
use Rattle.refresh_scan.proofs.link_values.Given as goal

abbrev pub invariant-loop-place : goal.invariant-loop-place
invariant-loop-place l = Linked l.values l.place l.links

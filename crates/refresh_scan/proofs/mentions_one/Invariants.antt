-- `refresh_scan::mentions_one` meets its contract. The loop's invariant: the columns from i on decide. Assumes nothing.
use Rattle.refresh_scan.proofs.Prelude.{◌≡◌, drop, mentions}
use Rattle.refresh_scan.proofs.mentions_one.Given as goal

abbrev pub invariant-loop-i : goal.invariant-loop-i
invariant-loop-i l = mentions l.columns l.values l.row ≡ mentions (drop l.i l.columns) l.values l.row

-- `refresh_scan::mark_rows` meets its contract. The loop's invariant: the rows wanted below this one are marked. Assumes nothing.
use Rattle.refresh_scan.proofs.Prelude.{Marked, mentions_from}
use Rattle.refresh_scan.proofs.BitmapSteps.{up_to}
use Rattle.refresh_scan.proofs.mark_rows.Given as goal

abbrev pub invariant-loop-row : goal.invariant-loop-row
invariant-loop-row l = Marked (mentions_from l.h l.rows l.columns l.values l.from) (up_to l.h l.rows l.columns l.values l.from l.row) l.initial.words l.words l.marked

-- `table_read::rows_since_version` meets its contract. Assumes nothing.
use Rattle.std.proofs.lemmas.Result.{err_from_is_err_and}
use mathlib.Core.Path.{sym}
use Rattle.table_read.proofs.ReadingSteps.{noted_refused, noted_answered}
use Rattle.table_read.proofs.rows_since_version.Goals as goal

pub returns-in_err-check_noted : goal.returns-in_err-check_noted
returns-in_err-check_noted c =
    let p = err_from_is_err_and c.from_residual.result c.from_residual.ensures.1 in
    rw (p.1, p.2) (noted_refused _ _ _ _ c.in_err-check_noted.ensures)

pub returns : goal.returns
returns c = rw c.range.ensures (noted_answered _ _ _ (sym c.in_ok-check_noted.ensures))

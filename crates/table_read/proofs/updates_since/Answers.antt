-- `table_read::updates_since` meets its contract. Assumes nothing.
use Rattle.std.proofs.lemmas.Result.{err_from_is_err_and}
use mathlib.Core.Path.{sym}
use Rattle.table_read.proofs.ReadingSteps.{since_refused, since_answered}
use Rattle.table_read.proofs.updates_since.Goals as goal

pub returns-in_err-check_since : goal.returns-in_err-check_since
returns-in_err-check_since c =
    let p = err_from_is_err_and c.from_residual.result c.from_residual.ensures.1 in
    rw (p.1, p.2) (since_refused _ _ _ c.in_err-check_since.ensures)

pub returns : goal.returns
returns c = rw c.range.ensures (since_answered _ _ (sym c.in_ok-check_since.ensures))

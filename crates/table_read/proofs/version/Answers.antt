-- `table_read::version` meets its contract. Assumes nothing.
use Rattle.std.proofs.lemmas.Result.{err_from_is_err_and}
use mathlib.Core.Path.{sym}
use Rattle.table_read.proofs.ReadingSteps.{version_refused, version_answered}
use Rattle.table_read.proofs.version.Goals as goal

pub returns-in_err-check_version : goal.returns-in_err-check_version
returns-in_err-check_version c =
    let p = err_from_is_err_and c.from_residual.result c.from_residual.ensures.1 in
    rw (p.1, p.2) (version_refused _ _ c.in_err-check_version.ensures)

pub returns : goal.returns
returns c = version_answered _ (sym c.in_ok-check_version.ensures)

-- `query_scan::scan_one` meets its contract. Assumes nothing.
use Rattle.std.proofs.lemmas.Result.{err_from_is_err_and}
use Rattle.query_scan.proofs.Prelude.{refl}
use Rattle.query_scan.proofs.AnswerSteps.{one_stopped, one_scanned}
use Rattle.query_scan.proofs.scan_one.Goals as goal

pub returns-in_err-begun : goal.returns-in_err-begun
returns-in_err-begun c =
    let p = err_from_is_err_and c.from_residual.result c.from_residual.ensures.1 in
    rw (p.1, p.2) (one_stopped _ _ _ _ _ _ c.known-known.ensures _ c.in_err-begun.ensures)

pub retain-requires : goal.retain-requires
retain-requires c = c.in_ok-begun.ensures.can_start _ refl

pub returns : goal.returns
returns c = one_scanned _ _ _ _ _ _ c.known-known.ensures _ c.in_ok-begun.ensures _ _ c.retain.ensures

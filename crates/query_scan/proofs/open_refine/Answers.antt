-- `query_scan::open_refine` meets its contract. Assumes nothing.
use Rattle.std.proofs.lemmas.Result.{err_from_is_err_and}
use Rattle.query_scan.proofs.Prelude.{refl, arith}
use Rattle.query_scan.proofs.ScanSteps.{size_few}
use Rattle.query_scan.proofs.AnswerSteps.{refine_stopped, refine_opened}
use Rattle.query_scan.proofs.open_refine.Goals as goal

pub returns-in_err-check_refine : goal.returns-in_err-check_refine
returns-in_err-check_refine c =
    let p = err_from_is_err_and c.from_residual.result c.from_residual.ensures.1 in
    rw (p.1, p.2) (refine_stopped _ _ _ _ _ _ c.in_err-check_refine.ensures)

pub overflow_cast-size : goal.overflow_cast-size
overflow_cast-size c = omega (arith, c.size-size.ensures, size_few _ _ _ (c.in_ok-check_refine.ensures.queryable refl))

pub returns : goal.returns
returns c = refine_opened _ _ _ _ _ _ c.in_ok-check_refine.ensures (rw c.size-size.ensures at c.at_place.ensures)

-- `query::refine_ref` meets its contract. Assumes nothing.
use Rattle.std.proofs.lemmas.Result.{err_from_is_err_and}
use Rattle.query_scan.proofs.AnswerSteps.{can_write, list_refused, list_answered}
use Rattle.query.proofs.refine_ref.Goals as goal

pub returns-in_err-done : goal.returns-in_err-done
returns-in_err-done c =
    let p = err_from_is_err_and c.from_residual.result c.from_residual.ensures.1 in
    rw (p.1, p.2) (list_refused _ _ _ _ _ _ c.in_err-done.ensures)

pub close_refine-requires : goal.close_refine-requires
close_refine-requires c = can_write _ _ _ _ _ _ _ c.in_ok-done.ensures

pub returns : goal.returns
returns c = list_answered _ _ _ _ _ _ _ c.in_ok-done.ensures _ _ c.close_refine.ensures

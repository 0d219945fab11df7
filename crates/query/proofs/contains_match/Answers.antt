-- `query::contains_match` meets its contract. Assumes nothing.
use Rattle.std.proofs.lemmas.Result.{err_from_is_err_and}
use Rattle.query_scan.proofs.MatchSteps.{match_refused, match_answered}
use Rattle.query.proofs.contains_match.Goals as goal

pub returns-in_err-done : goal.returns-in_err-done
returns-in_err-done c =
    let p = err_from_is_err_and c.from_residual.result c.from_residual.ensures.1 in
    rw (p.1, p.2) (match_refused _ _ _ _ _ _ c.in_err-done.ensures)

pub returns : goal.returns
returns c = match_answered _ _ _ _ _ _ _ c.in_ok-done.ensures _ c.close_match.ensures

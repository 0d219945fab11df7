-- `query_scan::open_match` meets its contract. Assumes nothing.
use Rattle.std.proofs.lemmas.Result.{err_from_is_err_and}
use Rattle.query_scan.proofs.Prelude.{refl, arith}
use Rattle.query_scan.proofs.ScanSteps.{size_few}
use Rattle.query_scan.proofs.AnswerSteps.{match_stopped, match_opened}
use Rattle.query_scan.proofs.open_match.Goals as goal

pub returns-in_err-check_match : goal.returns-in_err-check_match
returns-in_err-check_match c =
    let p = err_from_is_err_and c.from_residual.result c.from_residual.ensures.1 in
    rw (p.1, p.2) (match_stopped _ _ _ _ _ c.in_err-check_match.ensures)

pub overflow_cast-size : goal.overflow_cast-size
overflow_cast-size c = omega (arith, c.size-size.ensures, size_few _ _ _ (c.in_ok-check_match.ensures.queryable refl))

pub returns : goal.returns
returns c = match_opened _ _ _ _ _ c.in_ok-check_match.ensures (rw c.size-size.ensures at c.at_place.ensures)

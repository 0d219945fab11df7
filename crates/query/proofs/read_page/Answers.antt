-- `query::read_page` meets its contract. Assumes nothing.
use Rattle.std.proofs.lemmas.Result.{err_from_is_err_and}
use Rattle.query_scan.proofs.PageSteps.{page_refused, can_page, page_answered}
use Rattle.query.proofs.read_page.Goals as goal

pub returns-in_err-done : goal.returns-in_err-done
returns-in_err-done c =
    let p = err_from_is_err_and c.from_residual.result c.from_residual.ensures.1 in
    rw (p.1, p.2) (page_refused _ _ _ _ _ _ _ _ c.in_err-done.ensures)

pub close_page-requires : goal.close_page-requires
close_page-requires c = can_page _ _ _ _ _ _ _ _ _ c.in_ok-done.ensures

pub returns : goal.returns
returns c = page_answered _ _ _ _ _ _ _ _ _ c.in_ok-done.ensures _ _ c.close_page.ensures

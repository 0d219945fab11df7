-- `query_scan::open_page` meets its contract. Assumes nothing.
use Rattle.std.proofs.lemmas.Result.{err_from_is_err_and}
use Rattle.query_scan.proofs.Prelude.{refl, arith}
use Rattle.query_scan.proofs.ScanSteps.{size_few}
use Rattle.query_scan.proofs.AnswerSteps.{page_stopped, page_opened}
use Rattle.query_scan.proofs.open_page.Goals as goal

pub returns-in_err-check_page : goal.returns-in_err-check_page
returns-in_err-check_page c =
    let p = err_from_is_err_and c.from_residual.result c.from_residual.ensures.1 in
    rw (p.1, p.2) (page_stopped _ _ _ _ _ _ _ _ c.in_err-check_page.ensures)

pub overflow_sub-left : goal.overflow_sub-left
overflow_sub-left c = omega (arith, c.size.ensures, c.in_ok-check_page.ensures.within refl)

pub overflow_cast-places : goal.overflow_cast-places
overflow_cast-places c = omega (arith, c.min-places.ensures, c.size.ensures, size_few _ _ _ (c.in_ok-check_page.ensures.queryable refl))

pub overflow_add-start : goal.overflow_add-start
overflow_add-start c = let r = c.in_ok-check_page.ensures in omega (arith, c.min-places.ensures, c.size.ensures, size_few _ _ _ (r.queryable refl), r.within refl)

pub at_place-requires : goal.at_place-requires
at_place-requires c = omega (arith, c.min-places.ensures, c.size.ensures, c.in_ok-check_page.ensures.within refl)

pub returns : goal.returns
returns c = page_opened _ _ _ _ _ _ _ _ c.in_ok-check_page.ensures (rw (c.min-places.ensures, c.size.ensures) at c.at_place.ensures)

-- `query_spec::refusing::check_page` meets its contract. Assumes nothing.
use Rattle.std.proofs.lemmas.Result.{err_from_is_err_and}
use Rattle.refusals.specs.Laws.Numbers.{number_some}
use Rattle.query_spec.proofs.Prelude.{sym, arith}
use Rattle.query_spec.proofs.RefusingSteps.{page_early, page_beyond, page_unknown, page_narrow, page_allowed}
use Rattle.query_spec.proofs.refusing.check_page.Goals as goal

pub returns-in_err-check_subset : goal.returns-in_err-check_subset
returns-in_err-check_subset c =
    let p = err_from_is_err_and c.from_residual.result c.from_residual.ensures.1 in
    rw (p.1, p.2) (page_early _ _ _ _ _ _ _ _ c.in_err-check_subset.ensures (number_some _))

pub returns-then-size-first : goal.returns-then-size-first
returns-then-size-first c = page_beyond _ _ _ _ _ _ _ (sym c.in_ok-check_subset.ensures) (omega (arith, c.size-size.ensures, c.if-size-first.true))

pub returns-then-not-known : goal.returns-then-not-known
returns-then-not-known c = page_unknown _ _ _ _ _ _ _ (sym c.in_ok-check_subset.ensures) (omega (arith, c.size-size.ensures, c.if-size-first.false)) c.if-not-known.true

pub returns-then-output-min : goal.returns-then-output-min
returns-then-output-min c = page_narrow _ _ _ _ _ _ _ (sym c.in_ok-check_subset.ensures) (omega (arith, c.size-size.ensures, c.if-size-first.false)) c.if-not-known.false (omega (arith, c.size-size.ensures, c.min.ensures, c.if-output-min.true))

pub returns : goal.returns
returns c = page_allowed _ _ _ _ _ _ _ (sym c.in_ok-check_subset.ensures) (omega (arith, c.size-size.ensures, c.if-size-first.false)) c.if-not-known.false (omega (arith, c.size-size.ensures, c.min.ensures, c.if-output-min.false))

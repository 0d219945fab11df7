-- `query_spec::refusing::check_refine` meets its contract. Assumes nothing.
use Rattle.std.proofs.lemmas.Result.{err_from_is_err_and}
use Rattle.refusals.specs.Laws.Numbers.{number_some}
use Rattle.query_spec.proofs.Prelude.{sym, arith}
use Rattle.query_spec.proofs.RefusingSteps.{refine_early, refine_unknown, refine_narrow, refine_allowed}
use Rattle.query_spec.proofs.refusing.check_refine.Goals as goal

pub returns-in_err-check_subset : goal.returns-in_err-check_subset
returns-in_err-check_subset c =
    let p = err_from_is_err_and c.from_residual.result c.from_residual.ensures.1 in
    rw (p.1, p.2) (refine_early _ _ _ _ _ _ c.in_err-check_subset.ensures (number_some _))

pub returns-then-not-known : goal.returns-then-not-known
returns-then-not-known c = refine_unknown _ _ _ _ _ (sym c.in_ok-check_subset.ensures) c.if-not-known.true

pub returns-then-output-size : goal.returns-then-output-size
returns-then-output-size c = refine_narrow _ _ _ _ _ (sym c.in_ok-check_subset.ensures) c.if-not-known.false (omega (arith, c.size.ensures, c.if-output-size.true))

pub returns : goal.returns
returns c = refine_allowed _ _ _ _ _ (sym c.in_ok-check_subset.ensures) c.if-not-known.false (omega (arith, c.size.ensures, c.if-output-size.false))

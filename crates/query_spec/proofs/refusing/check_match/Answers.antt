-- `query_spec::refusing::check_match` meets its contract. Assumes nothing.
use Rattle.std.proofs.lemmas.Result.{err_from_is_err_and}
use Rattle.refusals.specs.Laws.Numbers.{number_some}
use Rattle.query_spec.proofs.Prelude.{sym}
use Rattle.query_spec.proofs.RefusingSteps.{match_early, match_unknown, match_allowed}
use Rattle.query_spec.proofs.refusing.check_match.Goals as goal

pub returns-in_err-check_subset : goal.returns-in_err-check_subset
returns-in_err-check_subset c =
    let p = err_from_is_err_and c.from_residual.result c.from_residual.ensures.1 in
    rw (p.1, p.2) (match_early _ _ _ _ _ c.in_err-check_subset.ensures (number_some _))

pub returns-then-not-known : goal.returns-then-not-known
returns-then-not-known c = match_unknown _ _ _ _ (sym c.in_ok-check_subset.ensures) c.if-not-known.true

pub returns : goal.returns
returns c = match_allowed _ _ _ _ (sym c.in_ok-check_subset.ensures) c.if-not-known.false

use Rattle.std.proofs.lemmas.Result.{err_from_is_err_and}
use Rattle.precedence.proofs.Prelude.{refl, sym, ◌∙◌, arith, length}
use Rattle.precedence.proofs.Checks.{Accepted, passed_accepted, check_refused, check_met, check_fails}
use Rattle.precedence.proofs.Steps.{rows_begin, row_fails, row_meets_lem, rows_end}
use Rattle.precedence.proofs.check_precedence.Goals.{In_ok-check_pairs}
use Rattle.precedence.proofs.check_precedence.Goals as goal

accepts : (c : In_ok-check_pairs) → let a = c.args in Accepted a.h a.rows.now a.keys.now a.column (length a.pairs.now)
accepts c = passed_accepted _ _ _ _ _ (sym c.in_ok-check_pairs.ensures)

pub returns-in_err-check_pairs : goal.returns-in_err-check_pairs
returns-in_err-check_pairs c =
    let p = err_from_is_err_and c.from_residual.result c.from_residual.ensures.1 in
    rw (p.1, p.2) (check_refused _ _ _ _ _ _ c.in_err-check_pairs.ensures)

pub loop-row-init : goal.loop-row-init
loop-row-init c = λ sound differ. refl

pub failing_pair-place-requires : goal.failing_pair-place-requires
failing_pair-place-requires c = let a = accepts (goal.at.failing_pair-place-requires c).In_ok-check_pairs in (a.tested, a.column_key, c.loop-row-test.true)

pub overflow_cast-result : goal.overflow_cast-result
overflow_cast-result c = omega (arith, accepts (goal.at.overflow_cast-result c).In_ok-check_pairs)

pub returns-then-place-count : goal.returns-then-place-count
returns-then-place-count c = check_fails _ _ _ _ _ (sym c.in_ok-check_pairs.ensures) _ _ (λ sound differ. sym (row_fails _ _ _ _ _ c.loop-row-test.true _ ((c.failing_pair-place.ensures sound differ).fails c.if-place-count.true)) ∙ c.loop-row.invariant sound differ ∙ rows_begin _ _ _ _)

pub loop-row-preserved : goal.loop-row-preserved
loop-row-preserved c = λ sound differ. sym (row_meets_lem _ _ _ _ _ c.loop-row-test.true ((c.failing_pair-place.ensures sound differ).meets c.if-place-count.false)) ∙ c.loop-row.invariant sound differ

pub returns : goal.returns
returns c = check_met _ _ _ _ _ (sym c.in_ok-check_pairs.ensures) (λ sound differ. sym (rows_end _ _ _ _ _ c.loop-row-test.false) ∙ c.loop-row.invariant sound differ ∙ rows_begin _ _ _ _)

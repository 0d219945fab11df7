-- `merge::merge` meets its contract. Assumes nothing.
use Rattle.std.proofs.lemmas.Result.{err_from_is_err_and}
use mathlib.Core.Path.{sym}
use Rattle.merge.proofs.MergingSteps.{merge_refused, merge_ready, merge_lendable, merge_done}
use Rattle.merge.proofs.merge.Goals as goal

pub returns-in_err-check_merge : goal.returns-in_err-check_merge
returns-in_err-check_merge c =
    let p = err_from_is_err_and c.from_residual.result c.from_residual.ensures.1 in
    rw (p.1, p.2) (merge_refused _ _ _ _ _ _ _ _ c.in_err-check_merge.ensures)

pub apply_pending-m-requires : goal.apply_pending-m-requires
apply_pending-m-requires c =
    merge_ready _ _ _ _ _ c.args.live.now c.args.base.now (sym c.in_ok-check_merge.ensures)

pub finish-requires : goal.finish-requires
finish-requires c =
    merge_lendable _ _ _ _ _ _ _ (sym c.in_ok-check_merge.ensures) _ _ _ _ c.apply_pending-m.ensures
    c.rows-1.given c.keys-1.given c.sorts-1.given

pub returns : goal.returns
returns c =
    merge_done _ _ _ _ _ _ _ (sym c.in_ok-check_merge.ensures) _ _ _ _ c.apply_pending-m.ensures _ _ _ _ _ _ c.finish.ensures

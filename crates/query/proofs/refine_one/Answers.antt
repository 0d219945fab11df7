-- `query::refine_one` meets its contract. Assumes nothing.
use Rattle.std.proofs.lemmas.Result.{err_from_is_err_and}
use Rattle.offsets.specs.Laws.Subsets.{range_is, list_is}
use Rattle.query.proofs.Prelude.{kept_all, can_write, retained_range, retained_list, one_refused, one_answered}
use Rattle.query.proofs.refine_one.Goals as goal

pub returns-in_err-done : goal.returns-in_err-done
returns-in_err-done c =
    let p = err_from_is_err_and c.from_residual.result c.from_residual.ensures.1 in
    rw (p.1, p.2) (one_refused _ _ _ _ _ _ c.in_err-done.ensures)

pub returns-in-Range : goal.returns-in-Range
returns-in-Range c =
    let a = rw (c.in-Range.is, range_is) at c.in_ok-done.ensures in
    rw (c.in-Range.is, range_is) (one_answered _ _ _ _ _ _ _ a _ _ (retained_range _ _ _ _ _ _ _ (kept_all _ _ _ _ _ _ _ a) c.finish.ensures))

pub write_found-requires : goal.write_found-requires
write_found-requires c = can_write _ _ _ _ _ _ _ c.in_ok-done.ensures

pub returns-in-List : goal.returns-in-List
returns-in-List c =
    let a = rw (c.in-List.is, list_is) at c.in_ok-done.ensures in
    rw (c.in-List.is, list_is) (one_answered _ _ _ _ _ _ _ a _ _ (retained_list _ _ _ _ _ (c.write_found.ensures.writes _ _ (kept_all _ _ _ _ _ _ _ a))))

-- `offsets_intersect::intersect` meets its contract. Assumes nothing.
use Rattle.std.proofs.lemmas.Result.{err_from_is_err_and}
use Rattle.offsets.specs.Laws.Subsets.{range_is, list_is}
use Rattle.offsets_intersect.proofs.Prelude.{sym}
use Rattle.offsets_intersect.proofs.Answers.{answered_refused, can_range_list, can_list_range, can_lists, as_range_list, as_list_range, as_lists}
use Rattle.offsets_intersect.proofs.intersect.Goals as goal

-- two ranges
pub returns-in-Range-second : goal.returns-in-Range-second
returns-in-Range-second c = rw (c.in-Range.is, range_is, c.in-Range-second.is, range_is) (c.intersect_ranges.ensures _)

-- a range and a list
pub returns-in_err-check_intersect-in-List-second : goal.returns-in_err-check_intersect-in-List-second
returns-in_err-check_intersect-in-List-second c =
    let p = err_from_is_err_and c.from_residual.result c.from_residual.ensures.1 in
    rw (p.1, p.2) (answered_refused _ _ _ _ _ c.in_err-check_intersect-in-List-second.ensures)

pub intersect_range_list-requires : goal.intersect_range_list-requires
intersect_range_list-requires c =
    let n = rw (c.in-Range.is, range_is, c.in-List-second.is, list_is) at (sym c.in_ok-check_intersect-in-List-second.ensures) in
    can_range_list _ _ _ _ n

pub returns-in_ok-check_intersect-in-List-second : goal.returns-in_ok-check_intersect-in-List-second
returns-in_ok-check_intersect-in-List-second c =
    let n = rw (c.in-Range.is, range_is, c.in-List-second.is, list_is) at (sym c.in_ok-check_intersect-in-List-second.ensures) in
    rw (c.in-Range.is, range_is, c.in-List-second.is, list_is) (as_range_list _ _ _ _ _ _ n c.intersect_range_list.ensures)

-- a list and a range, or two lists
pub returns-in_err-check_intersect-in-List : goal.returns-in_err-check_intersect-in-List
returns-in_err-check_intersect-in-List c =
    let p = err_from_is_err_and c.from_residual-in_err-check_intersect-in-List.result c.from_residual-in_err-check_intersect-in-List.ensures.1 in
    rw (p.1, p.2) (answered_refused _ _ _ _ _ c.in_err-check_intersect-in-List.ensures)

pub intersect_list_range-requires : goal.intersect_list_range-requires
intersect_list_range-requires c =
    let n = rw (c.in-List.is, list_is, c.in-Range-second-2.is, range_is) at (sym c.in_ok-check_intersect-in-List.ensures) in
    can_list_range _ _ _ _ n

pub returns-in-Range-second-2 : goal.returns-in-Range-second-2
returns-in-Range-second-2 c =
    let n = rw (c.in-List.is, list_is, c.in-Range-second-2.is, range_is) at (sym c.in_ok-check_intersect-in-List.ensures) in
    rw (c.in-List.is, list_is, c.in-Range-second-2.is, range_is) (as_list_range _ _ _ _ _ _ n c.intersect_list_range.ensures)

pub intersect_lists-requires : goal.intersect_lists-requires
intersect_lists-requires c =
    let n = rw (c.in-List.is, list_is, c.in-List-second-2.is, list_is) at (sym c.in_ok-check_intersect-in-List.ensures) in
    can_lists _ _ _ n

pub returns-in-List-second-2 : goal.returns-in-List-second-2
returns-in-List-second-2 c =
    let n = rw (c.in-List.is, list_is, c.in-List-second-2.is, list_is) at (sym c.in_ok-check_intersect-in-List.ensures) in
    rw (c.in-List.is, list_is, c.in-List-second-2.is, list_is) (as_lists _ _ _ n _ _ c.intersect_lists.ensures)

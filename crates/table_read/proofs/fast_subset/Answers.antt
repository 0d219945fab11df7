-- `table_read::fast_subset` meets its contract. Assumes nothing.
use Rattle.std.proofs.lemmas.Result.{err_from_is_err_and}
use mathlib.Core.Path.{sym}
use Rattle.table_read.proofs.ReadingSteps.{range_refused, range_pre, range_columns, range_other, range_some}
use Rattle.table_read.proofs.fast_subset.Goals as goal

pub returns-in_err-check_fast : goal.returns-in_err-check_fast
returns-in_err-check_fast c =
    let p = err_from_is_err_and c.from_residual.result c.from_residual.ensures.1 in
    rw (p.1, p.2) (range_refused _ _ _ _ c.in_err-check_fast.ensures)

pub returns-then-c-eq-EQUAL_COLUMNS : goal.returns-then-c-eq-EQUAL_COLUMNS
returns-then-c-eq-EQUAL_COLUMNS c = range_columns _ _ _ (sym c.in_ok-check_fast.ensures) c.if-c-eq-EQUAL_COLUMNS.true

pub returns-then-c-h : goal.returns-then-c-h
returns-then-c-h c = range_other _ _ _ (sym c.in_ok-check_fast.ensures) c.if-c-eq-EQUAL_COLUMNS.false c.if-c-h.true

pub fast_range-range-requires : goal.fast_range-range-requires
fast_range-range-requires c = range_pre _ _ _ (sym c.in_ok-check_fast.ensures)

pub returns : goal.returns
returns c = range_some _ _ _ (sym c.in_ok-check_fast.ensures) c.if-c-eq-EQUAL_COLUMNS.false c.if-c-h.false _ c.fast_range-range.ensures

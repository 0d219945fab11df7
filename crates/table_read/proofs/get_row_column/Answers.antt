-- `table_read::get_row_column` meets its contract. Assumes nothing.
use Rattle.std.proofs.lemmas.Result.{err_from_is_err_and}
use native.Mathlib.Omega.{arith}
use mathlib.Core.Path.{sym}
use Rattle.table_read.proofs.ReadingSteps.{CellIn, cell_pre, cell_refused, cell_in, cell_none, cell_found}
use Rattle.table_read.proofs.get_row_column.Goals.{After-row_start}
use Rattle.table_read.proofs.get_row_column.Goals as goal

-- the cell of the row that was found
there : (c : After-row_start) → let a = c.args in CellIn a.h a.rows.now c.in-Some.hit.row a.column
there c =
    cell_in _ _ _ _ _ _ _ c.index_shape.ensures c.compact_hash.ensures c.look_up-found.ensures _ (sym c.in_ok-check_cell.ensures) _
    c.in-Some.is

pub returns-in_err-check_cell : goal.returns-in_err-check_cell
returns-in_err-check_cell c =
    let p = err_from_is_err_and c.from_residual.result c.from_residual.ensures.1 in
    rw (p.1, p.2) (cell_refused _ _ _ _ _ _ c.in_err-check_cell.ensures)

pub look_up-found-requires : goal.look_up-found-requires
look_up-found-requires c = cell_pre _ _ _ c.args.key.now _ c.args.column c.index_shape.ensures (sym c.in_ok-check_cell.ensures)

pub overflow_add-at : goal.overflow_add-at
overflow_add-at c = omega (arith, there c)

pub offset_bounds-rows-at : goal.offset_bounds-rows-at
offset_bounds-rows-at c = omega (arith, there c)

pub bounds-rows-at : goal.bounds-rows-at
bounds-rows-at c = omega (arith, there (goal.at.bounds-rows-at c).After-row_start)

pub returns-in-None : goal.returns-in-None
returns-in-None c = cell_none _ _ _ _ _ _ _ c.index_shape.ensures c.compact_hash.ensures c.look_up-found.ensures _ (sym c.in_ok-check_cell.ensures) c.in-None.is

pub returns-in-Some : goal.returns-in-Some
returns-in-Some c =
    rw c.row_start.ensures (cell_found _ _ _ _ _ _ _ c.index_shape.ensures c.compact_hash.ensures c.look_up-found.ensures _ (sym c.in_ok-check_cell.ensures) _ c.in-Some.is)

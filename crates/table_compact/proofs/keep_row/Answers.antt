-- `table_compact::keep_row` meets its contract. Assumes nothing.
use Rattle.table_compact.proofs.Prelude.{arith}
use Rattle.table_compact.proofs.CompactionSteps.{from_place, to_place, row_kept}
use Rattle.table_compact.proofs.keep_row.Goals as goal

pub move_down-requires : goal.move_down-requires
move_down-requires c = omega (arith, from_place c.requires, to_place c.requires)

pub overflow_add-cell : goal.overflow_add-cell
overflow_add-cell c = omega (arith, from_place c.requires, to_place c.requires)

pub offset_bounds-rows-cell : goal.offset_bounds-rows-cell
offset_bounds-rows-cell c = omega (arith, from_place c.requires, to_place c.requires)

pub bounds-rows-cell : goal.bounds-rows-cell
bounds-rows-cell c =
    omega (arith, from_place c.requires, to_place c.requires, c.requires.sort_column)

pub returns : goal.returns
returns c =
    let to = c.row_start-to.ensures in
    row_kept c.requires _ _ _ (rw (to, c.row_start-from.ensures) at c.move_down.ensures) (rw to at c.append_entry.ensures)

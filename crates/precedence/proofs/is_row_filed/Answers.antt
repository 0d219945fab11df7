-- `precedence::is_row_filed` meets its contract. Assumes nothing.
use Rattle.precedence.proofs.Prelude.{refl, arith}
use Rattle.precedence.proofs.Steps.{RowInStore, row_in_store, key_fits, key_made, filed_row}
use Rattle.precedence.proofs.is_row_filed.Goals.{Start}
use Rattle.precedence.proofs.is_row_filed.Goals as goal

lies : (s : Start) → RowInStore s.args.h s.args.rows.now s.args.row
lies s = row_in_store _ _ _ s.requires.0 _ s.requires.2

pub overflow_add-from : goal.overflow_add-from
overflow_add-from c = omega (arith, lies (goal.at.overflow_add-from c).Start)

pub offset_bounds-rows-from : goal.offset_bounds-rows-from
offset_bounds-rows-from c = omega (arith, lies (goal.at.offset_bounds-rows-from c).Start)

pub slice_bounds-write_row-end-2 : goal.slice_bounds-write_row-end-2
slice_bounds-write_row-end-2 c = omega (arith, lies (goal.at.slice_bounds-write_row-end-2 c).Start)

pub overflow_add-latest : goal.overflow_add-latest
overflow_add-latest c = omega (arith, lies (goal.at.overflow_add-latest c).Start)

pub offset_bounds-rows-from-2 : goal.offset_bounds-rows-from-2
offset_bounds-rows-from-2 c = omega (arith, lies (goal.at.offset_bounds-rows-from-2 c).Start)

pub bounds-rows-from : goal.bounds-rows-from
bounds-rows-from c = omega (arith, lies (goal.at.bounds-rows-from c).Start)

pub slice_bounds-is_filed_by-end : goal.slice_bounds-is_filed_by-end
slice_bounds-is_filed_by-end c = key_fits _ _ _ c.requires.0 _ _ _ c.requires.1 c.requires.2 _ _ (rw c.row_start-from.ensures at c.write_row.ensures) refl

pub returns : goal.returns
returns c =
    let e = c.row_start-from.ensures in
    filed_row _ _ _ c.requires.0 _ _ _ c.requires.1 c.requires.2 _ _ _ (key_made _ _ _ c.requires.0 _ _ _ c.requires.1 c.requires.2 _ _ (rw e at c.write_row.ensures)) (rw e) c.is_filed_by.ensures

-- `row_buffer::copy_row` meets its contract. The loop's invariant: the first i cells are the row's, the others as they
-- were. Assumes nothing.
use Rattle.row_buffer.proofs.Prelude.{◌≡◌, ◌++◌, take, drop}
use Rattle.row_buffer.proofs.copy_row.Given as goal

abbrev pub invariant-loop-i : goal.invariant-loop-i
invariant-loop-i l = l.part ≡ take l.i l.row ++ drop l.i l.initial.part

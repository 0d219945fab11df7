-- `row_buffer::move_row` meets its contract. The loop's invariant: the first i cells are those from position `gap` on, the others
-- are unchanged. Assumes nothing.
use Rattle.row_buffer.proofs.Prelude.{◌≡◌}
use Rattle.row_buffer.proofs.Laws.{down}
use Rattle.row_buffer.proofs.move_row.Given as goal

abbrev pub invariant-loop-i : goal.invariant-loop-i
invariant-loop-i l = l.part ≡ down l.initial.part l.gap l.i

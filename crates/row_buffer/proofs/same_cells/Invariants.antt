-- `row_buffer::same_cells` meets its contract. The loop's invariant: what is to come from i on decides. Assumes nothing.
use Rattle.row_buffer.proofs.Prelude.{◌≡◌, drop, same}
use Rattle.row_buffer.proofs.same_cells.Given as goal

abbrev pub invariant-loop-i : goal.invariant-loop-i
invariant-loop-i l = same l.a l.b ≡ same (drop l.i l.a) (drop l.i l.b)

-- `bitmap::word::bits_of_different_cells` meets its contract. Assumes nothing.
use Rattle.bitmap.proofs.MarkSteps.{Marked}
use Rattle.bitmap.proofs.word.bits_of_different_cells.Given as goal

abbrev pub invariant-loop-bit : goal.invariant-loop-bit
invariant-loop-bit l = Marked l.cells l.from l.stride l.count l.than l.word l.at l.bit

-- `offsets::retain::fill_from_dense` meets its contract. Assumes nothing.
use Rattle.offsets.proofs.Grow.{Filled}
use Rattle.offsets.proofs.retain.fill_from_dense.Given as goal

abbrev pub invariant-loop-i : goal.invariant-loop-i
invariant-loop-i l = Filled l.initial.output l.output l.start l.count l.i

-- `offsets_intersect::gallop_along` meets its contract. Assumes nothing.
use Rattle.offsets_intersect.proofs.Passing.{GallopInvariant}
use Rattle.offsets_intersect.proofs.gallop_along.Given as goal

abbrev pub invariant-loop-i : goal.invariant-loop-i
invariant-loop-i l = GallopInvariant l.ids l.others l.initial.output l.output l.i l.o l.n

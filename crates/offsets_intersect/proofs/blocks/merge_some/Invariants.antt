-- `offsets_intersect::blocks::merge_some` meets its contract. Assumes nothing.
use Rattle.offsets_intersect.proofs.Prelude.{◌+◌, ◌-◌, length}
use Rattle.offsets_intersect.proofs.Passing.{Pace}
use Rattle.offsets_intersect.proofs.blocks.merge_some.Given as goal

abbrev pub invariant-loop-other : goal.invariant-loop-other
invariant-loop-other l = Pace l.ids l.others l.initial.output l.output l.initial.i l.initial.o l.initial.n l.i l.o l.n l.stop l.id l.other

abbrev pub decreases-loop-other : goal.decreases-loop-other
decreases-loop-other l = length l.ids - l.i + (length l.others - l.o)

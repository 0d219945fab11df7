-- `offsets_intersect::blocks::merge_similar` meets its contract. Assumes nothing.
use Rattle.offsets_intersect.proofs.Prelude.{◌+◌, ◌-◌, length, MergedTo}
use Rattle.offsets_intersect.proofs.blocks.merge_similar.Given as goal

abbrev pub invariant-loop-walk : goal.invariant-loop-walk
invariant-loop-walk l = MergedTo l.ids l.others l.initial.output l.output 0 0 0 l.walk.i l.walk.o l.walk.n

abbrev pub decreases-loop-walk : goal.decreases-loop-walk
decreases-loop-walk l = length l.ids - l.walk.i + (length l.others - l.walk.o)

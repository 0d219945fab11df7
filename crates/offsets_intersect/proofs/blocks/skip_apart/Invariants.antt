-- `offsets_intersect::blocks::skip_apart` meets its contract. Assumes nothing.
use Rattle.offsets_intersect.proofs.Prelude.{◌+◌, ◌-◌, ◌≡◌, true, length, rising, SkippedTo}
use Rattle.offsets_intersect.proofs.blocks.skip_apart.Given as goal

abbrev pub invariant-loop-i : goal.invariant-loop-i
invariant-loop-i l = SkippedTo l.ids l.others l.initial.i l.initial.o l.i l.o × (rising l.ids ≡ true) × (rising l.others ≡ true)

abbrev pub decreases-loop-i : goal.decreases-loop-i
decreases-loop-i l = length l.ids - l.i + (length l.others - l.o)

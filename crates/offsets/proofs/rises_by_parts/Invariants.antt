-- `offsets::rises_by_parts` meets its contract. Assumes nothing.
use Rattle.offsets.proofs.Prelude.{◌-◌, length, RisesUpTo}
use Rattle.offsets.proofs.rises_by_parts.Given as goal

abbrev pub invariant-loop-at : goal.invariant-loop-at
invariant-loop-at l = RisesUpTo l.ids l.at

abbrev pub decreases-loop-at : goal.decreases-loop-at
decreases-loop-at l = length l.ids - l.at

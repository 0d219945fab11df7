-- `refresh::write_group` meets its contract. Assumes nothing.
use Rattle.refresh.proofs.Prelude.{Group}
use Rattle.refresh.proofs.StageSteps.{Grouped}
use Rattle.refresh.proofs.write_group.Given as goal

abbrev pub invariant-loop-flags : goal.invariant-loop-flags
invariant-loop-flags l = (g : Group l.h l.rows l.initial.pending l.words l.before l.group l.stamp) → Grouped g l.pending l.used l.flags

abbrev pub decreases-loop-flags : goal.decreases-loop-flags
decreases-loop-flags l = l.flags

-- `merge_pending::after_run` meets its contract. The loop's invariant: only records of the kind were passed over. Assumes nothing.
use Prim.Native.Nat.{◌-◌}
use Rattle.merge_pending.specs.inner.Becoming.{RunSkipped}
use Rattle.merge_pending.proofs.after_run.Given as goal

abbrev pub invariant-loop-at : goal.invariant-loop-at
invariant-loop-at l = RunSkipped l.h l.pending l.from l.kind l.words l.at

abbrev pub decreases-loop-at : goal.decreases-loop-at
decreases-loop-at l = l.h.pending - l.at

-- `merge_remove::remove_all` meets its contract. The loop's invariant: the removals so far and those of the records still to
-- come are the removals of all records. Assumes nothing.
use Rattle.merge_remove.proofs.Prelude.{◌-◌}
use Rattle.merge_remove.proofs.PassRemovals.{Removing}
use Rattle.merge_remove.proofs.remove_all.Given as goal

abbrev pub invariant-loop-words : goal.invariant-loop-words
invariant-loop-words l = Removing l.h l.initial.rows l.initial.keys l.pending l.kind l.rows l.keys l.dead l.at

abbrev pub decreases-loop-words : goal.decreases-loop-words
decreases-loop-words l = l.h.pending - l.at

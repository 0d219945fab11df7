-- `table_check::pending_whole` meets its contract. The loop's invariant: records fill the words from `at` on exactly if they fill all. Assumes nothing.
use Rattle.table_check.proofs.Prelude.{◌-◌, opening_of}
use Rattle.table_check.proofs.CheckingSteps.{Reached}
use Rattle.table_check.proofs.pending_whole.Given as goal

abbrev pub invariant-loop-at : goal.invariant-loop-at
invariant-loop-at l = Reached (opening_of l.h) l.pending l.h.pending l.at

abbrev pub decreases-loop-at : goal.decreases-loop-at
decreases-loop-at l = l.h.pending - l.at

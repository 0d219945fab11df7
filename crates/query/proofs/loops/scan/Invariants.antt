-- `query::loops::scan` meets its contract. Assumes nothing.
use Rattle.query.proofs.Prelude.{◌-◌, matches, ScanInvariant}
use Rattle.offsets.specs.Answers.{subset_of}
use Rattle.query.proofs.loops.scan.Given as goal

abbrev pub invariant-loop-at : goal.invariant-loop-at
invariant-loop-at l = ScanInvariant l.h l.rows (subset_of l.subset) (matches l.h l.rows l.conditions) l.initial.at l.initial.out l.at l.out

abbrev pub decreases-loop-at : goal.decreases-loop-at
decreases-loop-at l = l.at.end - l.at.next

-- `query_scan::retain` meets its contract. Assumes nothing.
use Rattle.query_scan.proofs.Prelude.{◌-◌, [], ◌∷◌, matches, ScanInvariant}
use Rattle.offsets.specs.Answers.{subset_of}
use Rattle.query_scan.proofs.retain.Given as goal

abbrev pub invariant-loop-at : goal.invariant-loop-at
invariant-loop-at l = ScanInvariant l.h l.rows (subset_of l.subset) (matches l.h l.rows (l.c ∷ [])) l.initial.at l.initial.out l.at l.out

abbrev pub decreases-loop-at : goal.decreases-loop-at
decreases-loop-at l = l.at.end - l.at.next

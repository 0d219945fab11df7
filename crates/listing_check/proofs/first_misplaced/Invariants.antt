-- `listing_check::first_misplaced` meets its contract. Assumes nothing.
use Rattle.listing_check.proofs.Prelude.{◌-◌, ◌≤◌, length}
use Rattle.listing_check.proofs.Risen.{Risen}
use Rattle.listing_check.proofs.first_misplaced.Given as goal

abbrev pub invariant-loop-at : goal.invariant-loop-at
invariant-loop-at l = (1 ≤ l.at) × Risen l.given l.at

abbrev pub decreases-loop-at : goal.decreases-loop-at
decreases-loop-at l = length l.given - l.at

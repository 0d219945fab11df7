-- `listing_check::check_answers` meets its contract. Assumes nothing.
use Rattle.listing_check.proofs.Prelude.{◌-◌, Underway}
use Rattle.listing_check.proofs.check_answers.Given as goal

abbrev pub invariant-loop-at : goal.invariant-loop-at
invariant-loop-at l = Underway l.h.columns l.text l.conditions l.given l.at

abbrev pub decreases-loop-at : goal.decreases-loop-at
decreases-loop-at l = l.at.end - l.at.start

-- `listing_read::write_rows` meets its contract. Assumes nothing.
use Rattle.listing_read.proofs.Prelude.{◌-◌, ◌+◌, ◌≡◌, length, prefix_width}
use Rattle.listing_read.proofs.Writing.{Writing}
use Rattle.listing_read.proofs.write_rows.Given as goal

abbrev pub invariant-loop-at : goal.invariant-loop-at
invariant-loop-at l = Writing l.numbered l.columns l.text l.start l.initial.output l.output l.at l.used × (l.width ≡ prefix_width l.numbered + l.columns)

abbrev pub decreases-loop-at : goal.decreases-loop-at
decreases-loop-at l = length l.text - l.at

-- `listing_read::convert_rows` meets its contract. Assumes nothing.
use Rattle.listing_read.proofs.Prelude.{◌-◌, ◌+◌, ◌≡◌, length, prefix_width}
use Rattle.listing_read.proofs.Converting.{Converting}
use Rattle.listing_read.proofs.convert_rows.Given as goal

abbrev pub invariant-loop-at : goal.invariant-loop-at
invariant-loop-at l = Converting l.numbered l.columns l.text l.start l.initial.numbers l.initial.output l.used l.numbers l.output l.end l.number l.at × (l.width ≡ prefix_width l.numbered + l.columns)

abbrev pub decreases-loop-at : goal.decreases-loop-at
decreases-loop-at l = length l.text - l.at

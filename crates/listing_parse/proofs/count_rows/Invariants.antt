-- `listing_parse::count_rows` meets its contract. Assumes nothing.
use Rattle.listing_parse.proofs.Prelude.{◌-◌, length}
use Rattle.listing_parse.proofs.Counting.{Counting}
use Rattle.listing_parse.proofs.count_rows.Given as goal

abbrev pub invariant-loop-at : goal.invariant-loop-at
invariant-loop-at l = Counting l.numbered l.columns l.count l.text l.start l.initial.numbers l.numbers l.at l.least l.rows

abbrev pub decreases-loop-at : goal.decreases-loop-at
decreases-loop-at l = length l.text - l.at

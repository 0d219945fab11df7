-- `listing_write::rows_length` meets its contract. The loop's invariant: the bytes counted and those still to come are all. Assumes
-- nothing.
use Rattle.listing_write.proofs.Steps.{Measuring}
use Rattle.listing_write.proofs.rows_length.Given as goal

abbrev pub invariant-loop-number : goal.invariant-loop-number
invariant-loop-number l = Measuring l.numbered l.columns l.count l.rows l.total l.at l.number

-- `listing_write::numbers_length` meets its contract. Assumes nothing.
use Rattle.listing_write.proofs.Steps.{Counting}
use Rattle.listing_write.proofs.numbers_length.Given as goal

abbrev pub invariant-loop-number : goal.invariant-loop-number
invariant-loop-number l = Counting l.numbers l.total l.number-index

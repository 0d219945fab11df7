-- `listing_read::numbers_length` meets its contract. Assumes nothing.
use Rattle.listing_read.proofs.Lengths.{Summing}
use Rattle.listing_read.proofs.numbers_length.Given as goal

abbrev pub invariant-loop-number : goal.invariant-loop-number
invariant-loop-number l = Summing l.count l.total l.number

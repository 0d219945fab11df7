-- `listing_write::put_rows` meets its contract. The loop's invariant: the rows still to come end where all of them do. Assumes nothing.
use Rattle.listing_write.proofs.Steps.{Putting}
use Rattle.listing_write.proofs.put_rows.Given as goal

abbrev pub invariant-loop-number : goal.invariant-loop-number
invariant-loop-number l = Putting l.numbered l.initial.text l.used l.columns l.count l.rows l.text l.end l.at l.number

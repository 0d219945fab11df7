-- `listing_parse::reread_line` meets its contract. Assumes nothing.
use Rattle.listing_parse.proofs.Lines.{Reading}
use Rattle.listing_parse.proofs.reread_line.Given as goal

abbrev pub invariant-loop-count : goal.invariant-loop-count
invariant-loop-count l = Reading l.text l.start 68 l.width l.initial.numbers l.numbers l.at l.count

-- `listing_parse::line_at` meets its contract. Assumes nothing.
use Rattle.listing_parse.proofs.Lines.{Reading}
use Rattle.listing_parse.proofs.line_at.Given as goal

abbrev pub invariant-loop-count : goal.invariant-loop-count
invariant-loop-count l = Reading l.text l.start l.letter l.width l.initial.numbers l.numbers l.at l.count

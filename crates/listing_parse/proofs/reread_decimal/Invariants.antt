-- `listing_parse::reread_decimal` meets its contract. Assumes nothing.
use Rattle.listing_parse.proofs.Prelude.{◌-◌, length}
use Rattle.levels_text.specs.Laws.Digits.{Digits}
use Rattle.listing_parse.proofs.Digits.{field_in}
use Rattle.listing_parse.proofs.reread_decimal.Given as goal

abbrev pub invariant-loop-at : goal.invariant-loop-at
invariant-loop-at l = Digits (field_in l.text) l.start l.value l.at

abbrev pub decreases-loop-at : goal.decreases-loop-at
decreases-loop-at l = length l.text - l.at

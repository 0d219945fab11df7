-- `levels_text::write::put_numbers` meets its contract. The loop's invariant: the numbers passed are put. Assumes nothing.
use Rattle.levels_text.proofs.Prelude.{Numbering}
use Rattle.levels_text.proofs.write.put_numbers.Given as goal

abbrev pub invariant-loop-number : goal.invariant-loop-number
invariant-loop-number l = Numbering l.initial.text l.used l.numbers l.text l.end l.number-index

-- `levels_text::decimal` meets its contract. Assumes nothing.
use Rattle.levels_text.proofs.Digits.{Read}
use Rattle.levels_text.proofs.decimal.Given as goal

abbrev pub invariant-loop-byte : goal.invariant-loop-byte
invariant-loop-byte l = Read l.field l.value l.byte-index

-- `levels_text::read_line` meets its contract. Assumes nothing.
use Rattle.levels_text.proofs.Prelude.{◌≡◌, length}
use Rattle.levels_text.proofs.Numbers.{Numbers}
use Rattle.levels_text.proofs.read_line.Given as goal

abbrev pub invariant-loop-field : goal.invariant-loop-field
invariant-loop-field l = record { counted : l.count ≡ length l.yielded; read : Numbers l.line l.initial.numbers l.numbers l.count }

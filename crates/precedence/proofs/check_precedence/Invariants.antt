-- `precedence::check_precedence` meets its contract. The loop's invariant: the rows from here on give what all give. Assumes nothing.
use Rattle.precedence.proofs.Prelude.{◌≡◌, OnTable}
use Rattle.precedence.proofs.Steps.{from_row}
use Rattle.precedence.proofs.check_precedence.Given as goal

abbrev pub invariant-loop-row : goal.invariant-loop-row
invariant-loop-row l = OnTable l.h l.rows l.keys (from_row l.h l.rows l.column l.pairs l.row ≡ from_row l.h l.rows l.column l.pairs 0)

-- `precedence::failing_pair` meets its contract. The loop's invariant: the pairs from here on give what all give. Assumes nothing.
use Rattle.precedence.proofs.Prelude.{◌≡◌, OnTable}
use Rattle.precedence.proofs.Steps.{from_pair}
use Rattle.precedence.proofs.failing_pair.Given as goal

abbrev pub invariant-loop-place : goal.invariant-loop-place
invariant-loop-place l = OnTable l.h l.rows l.keys (from_pair l.h l.rows l.column l.pairs l.row l.place ≡ from_pair l.h l.rows l.column l.pairs l.row 0)

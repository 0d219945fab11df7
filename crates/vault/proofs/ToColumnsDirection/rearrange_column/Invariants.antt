-- `vault::ToColumnsDirection::rearrange_column` meets its contract. Assumes nothing.
use Rattle.vault.proofs.Filling.{Differencing}
use Rattle.vault.proofs.ToColumnsDirection.rearrange_column.Given as goal

abbrev pub invariant-loop-row : goal.invariant-loop-row
invariant-loop-row l = Differencing l.width l.rows l.start l.end l.column l.cells l.initial.output l.output l.above l.row

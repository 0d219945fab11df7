-- `vault::FromColumnsDirection::rearrange_column` meets its contract. Assumes nothing.
use Rattle.vault.proofs.Filling.{Summing}
use Rattle.vault.proofs.FromColumnsDirection.rearrange_column.Given as goal

abbrev pub invariant-loop-row : goal.invariant-loop-row
invariant-loop-row l = Summing l.width l.rows l.start l.end l.column l.cells l.initial.output l.output l.above l.row

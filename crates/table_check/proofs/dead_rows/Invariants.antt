-- `table_check::dead_rows` meets its contract. Assumes nothing.
use Rattle.table_check.proofs.Prelude.{◌≡◌}
use Rattle.table_check.proofs.CheckingSteps.{dead_among}
use Rattle.table_check.proofs.dead_rows.Given as goal

abbrev pub invariant-loop-row : goal.invariant-loop-row
invariant-loop-row l = l.dead ≡ dead_among l.h.columns l.row l.rows

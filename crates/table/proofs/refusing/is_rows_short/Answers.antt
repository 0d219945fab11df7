-- `table::refusing::is_rows_short` meets its contract. Assumes nothing.
use native.Mathlib.Omega.{arith}
use Rattle.table.proofs.RefusingSteps.{cells_few, rows_short_lem}
use Rattle.table.proofs.refusing.is_rows_short.Goals as goal

pub overflow_mul-needed : goal.overflow_mul-needed
overflow_mul-needed c = omega (arith, cells_few _ c.requires)

pub overflow_cast-result : goal.overflow_cast-result
overflow_cast-result c = omega (arith, cells_few _ c.requires)

pub returns : goal.returns
returns c = rows_short_lem _ _

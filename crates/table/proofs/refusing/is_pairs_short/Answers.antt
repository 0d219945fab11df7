-- `table::refusing::is_pairs_short` meets its contract. Assumes nothing.
use Rattle.table.proofs.Prelude.{arith}
use Rattle.table.proofs.RefusingSteps.{capacity_few, pairs_short_lem}
use Rattle.table.proofs.refusing.is_pairs_short.Goals as goal

pub overflow_mul-needed : goal.overflow_mul-needed
overflow_mul-needed c = omega (arith, capacity_few _ c.requires)

pub returns : goal.returns
returns c = pairs_short_lem _ _

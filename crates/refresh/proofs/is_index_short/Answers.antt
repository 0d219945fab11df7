-- `refresh::is_index_short` meets its contract. Assumes nothing.
use Rattle.refresh.proofs.Prelude.{refl, arith}
use Rattle.plain_table.specs.Refreshing.{index_short}
use Rattle.refresh.proofs.TestSteps.{index_fits}
use Rattle.refresh.proofs.is_index_short.Goals as goal

pub overflow_mul-needed : goal.overflow_mul-needed
unfolding index_short
overflow_mul-needed c = omega (arith, index_fits _ _ c.requires.0 c.requires.1)

pub overflow_mul-needed-2 : goal.overflow_mul-needed-2
unfolding index_short
overflow_mul-needed-2 c = omega (arith, index_fits _ _ c.requires.0 c.requires.1)

pub overflow_add-needed : goal.overflow_add-needed
unfolding index_short
overflow_add-needed c = omega (arith, index_fits _ _ c.requires.0 c.requires.1)

pub returns : goal.returns
unfolding index_short
returns c = refl

-- `merge_remove::is_spared` meets its contract. Assumes nothing.
use Rattle.merge_remove.proofs.Prelude.{eq-eqb}
use Rattle.merge_remove.specs.inner.Removals.{spared}
use Rattle.merge_remove.proofs.RemovalSteps.{spared_row}
use Rattle.merge_remove.proofs.is_spared.Goals as goal

pub returns-then-kind-ne-REMOVE_KEY : goal.returns-then-kind-ne-REMOVE_KEY
returns-then-kind-ne-REMOVE_KEY c = spared_row _ _ _ c.if-kind-ne-REMOVE_KEY.true

pub returns-else-kind-ne-REMOVE_KEY : goal.returns-else-kind-ne-REMOVE_KEY
unfolding spared
returns-else-kind-ne-REMOVE_KEY c = rw (eq-eqb _ _ c.if-kind-ne-REMOVE_KEY.false)

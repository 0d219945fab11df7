-- `merge_remove::kill` meets its contract. Assumes nothing.
use Rattle.merge_remove.proofs.RemovalSteps.{first_cell, killed}
use Rattle.merge_remove.proofs.kill.Goals as goal

pub set_stale-requires : goal.set_stale-requires
set_stale-requires c =
    rw c.row_start-at.ensures (first_cell _ _ _ _ c.requires.0 c.requires.1)

pub returns : goal.returns
returns c =
    killed _ _ _ _ _ _ _ _ c.requires.0 c.remove_row.ensures (rw c.row_start-at.ensures at c.set_stale.ensures)

-- `key_index::remove::remove_row` meets its contract. Assumes nothing.
use Rattle.key_index.proofs.ShiftSteps.{taken}
use Rattle.key_index.proofs.remove.remove_row.Goals as goal

pub returns : goal.returns
returns c =
    taken _ _ _ _ _ _ c.requires.0 c.requires.1 c.close_hole-hole.ensures

-- `key_index::remove::slots_away` meets its contract. Assumes nothing.
use Rattle.key_index.proofs.ShiftSteps.{distance_ahead, distance_behind}
use Rattle.key_index.proofs.remove.slots_away.Goals as goal

pub returns-then-from-to : goal.returns-then-from-to
returns-then-from-to c = distance_ahead _ _ _ c.requires.1 c.if-from-to.true

pub returns : goal.returns
returns c = distance_behind _ _ _ c.requires.0 c.if-from-to.false

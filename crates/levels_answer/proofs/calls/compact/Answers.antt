-- `levels_answer::calls::compact` meets its contract. Assumes nothing.
use Rattle.levels_answer.proofs.Prelude.{refl, compact_served}
use Rattle.levels_answer.proofs.calls.compact.Goals as goal

pub returns : goal.returns
returns c = compact_served c.taken.ensures refl refl c.compact-compacted.ensures

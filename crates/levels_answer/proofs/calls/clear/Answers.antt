-- `levels_answer::calls::clear` meets its contract. Assumes nothing.
use Rattle.levels_answer.proofs.Prelude.{clear_served}
use Rattle.levels_answer.proofs.calls.clear.Goals as goal

pub returns : goal.returns
returns c = clear_served c.taken.ensures c.clear-cleared.ensures

-- `levels_answer::calls::remove_key` meets its contract. Assumes nothing.
use Rattle.levels_answer.proofs.Prelude.{by_key_served}
use Rattle.levels_answer.proofs.calls.remove_key.Goals as goal

pub returns : goal.returns
returns c = by_key_served c.taken.ensures c.stage_remove-answer.ensures

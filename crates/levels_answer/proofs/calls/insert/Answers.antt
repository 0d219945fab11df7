-- `levels_answer::calls::insert` meets its contract. Assumes nothing.
use Rattle.levels_answer.proofs.Prelude.{insert_served}
use Rattle.levels_answer.proofs.calls.insert.Goals as goal

pub returns : goal.returns
returns c = insert_served c.taken.ensures c.stage_insert-answer.ensures

-- `levels_answer::calls::remove_row` meets its contract. Assumes nothing.
use Rattle.levels_answer.proofs.Prelude.{by_row_served}
use Rattle.levels_answer.proofs.calls.remove_row.Goals as goal

pub returns : goal.returns
returns c = by_row_served c.taken.ensures _ c.stage_remove_row-answer.ensures

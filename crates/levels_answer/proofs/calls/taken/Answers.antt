-- `levels_answer::calls::taken` meets its contract. Assumes nothing.
use Rattle.levels_answer.proofs.Prelude.{served_refused, served_table}
use Rattle.levels_answer.proofs.calls.taken.Goals as goal

pub returns-in-Err : goal.returns-in-Err
returns-in-Err c = served_refused _ _ _ c.in-Err.is

pub returns-in-Ok : goal.returns-in-Ok
returns-in-Ok c = served_table _ _ _ c.in-Ok.is

-- `levels_answer::calls::respond_merge` meets its contract. Assumes nothing.
use Rattle.levels_answer.proofs.Prelude.{merge_refused, merge_table, rules}
use Rattle.levels_answer.proofs.calls.respond_merge.Goals as goal

pub returns-in-Err : goal.returns-in-Err
returns-in-Err c = merge_refused _ _ _ c.in-Err.is

pub returns-in-Ok : goal.returns-in-Ok
returns-in-Ok c = merge_table _ _ _ _ c.in-Ok.is (search rules)

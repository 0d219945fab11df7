-- `replay::calls::header_after` meets its contract. Assumes nothing.
use Rattle.replay.proofs.Headers.{after_refused, after_table}
use Rattle.replay.proofs.calls.header_after.Goals as goal

pub returns-in-Err : goal.returns-in-Err
returns-in-Err c = after_refused _ _ _ c.in-Err.is

pub returns-in-Ok : goal.returns-in-Ok
returns-in-Ok c = after_table _ _ _ c.in-Ok.is

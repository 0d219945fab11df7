-- `replay::calls::header_merged` meets its contract. Assumes nothing.
use Rattle.replay.proofs.Headers.{merge_refused, merge_done}
use Rattle.replay.proofs.calls.header_merged.Goals as goal

pub returns-in-Err : goal.returns-in-Err
returns-in-Err c = merge_refused _ _ _ c.in-Err.is

pub returns-in-Ok : goal.returns-in-Ok
returns-in-Ok c = merge_done _ _ _ c.in-Ok.is

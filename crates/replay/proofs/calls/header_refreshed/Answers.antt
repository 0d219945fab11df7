-- `replay::calls::header_refreshed` meets its contract. Assumes nothing.
use Rattle.replay.proofs.Headers.{refresh_refused, refresh_done}
use Rattle.replay.proofs.calls.header_refreshed.Goals as goal

pub returns-in-Err : goal.returns-in-Err
returns-in-Err c = refresh_refused _ _ _ c.in-Err.is

pub returns-in-Ok : goal.returns-in-Ok
returns-in-Ok c = refresh_done _ _ _ c.in-Ok.is

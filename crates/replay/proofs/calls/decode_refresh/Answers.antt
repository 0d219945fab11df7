-- `replay::calls::decode_refresh` meets its contract. Assumes nothing.
use Rattle.replay.proofs.Prelude.{sym, refresh_empty, refresh_cut, refresh_unstamped, refresh_named}
use Rattle.replay.proofs.calls.decode_refresh.Goals as goal

pub returns-in_err-count : goal.returns-in_err-count
returns-in_err-count c = rw c.from_residual.ensures (sym (refresh_empty _ c.in_err-count.ensures.cases))

pub returns-in_err-columns : goal.returns-in_err-columns
returns-in_err-columns c = rw c.from_residual-in_err-columns.ensures (sym (refresh_cut _ c.in_ok-count.ensures.cases.0 c.in_err-columns.ensures.cases))

pub returns-in_err-stamp : goal.returns-in_err-stamp
returns-in_err-stamp c = rw c.from_residual-in_err-stamp.ensures (sym (refresh_unstamped _ c.in_ok-count.ensures.cases.0 c.in_ok-columns.ensures.cases.2 c.in_err-stamp.ensures.cases))

pub returns : goal.returns
returns c = sym (refresh_named _ c.in_ok-count.ensures.cases.0 c.in_ok-columns.ensures.cases.2 c.in_ok-columns.ensures.cases.1 c.in_ok-stamp.ensures.cases.0)

-- `replay::calls::decode` meets its contract. Assumes nothing.
use Rattle.replay.proofs.Prelude.{sym, ◌∙◌, arith, call_insert, call_remove, call_row, call_merge, call_compact, call_clear, call_refresh, call_none, row_none, row_named}
use Rattle.replay.proofs.calls.decode.Goals as goal

pub returns-in_err-row-in-2 : goal.returns-in_err-row-in-2
returns-in_err-row-in-2 c = rw c.from_residual.ensures (sym (call_row _ _ c.in-2.is ∙ row_none _ c.in_err-row-in-2.ensures.cases))

pub returns-in-0 : goal.returns-in-0
returns-in-0 c = sym (call_insert _ _ c.in-0.is)

pub returns-in-1 : goal.returns-in-1
returns-in-1 c = sym (call_remove _ _ c.in-1.is)

pub returns-in_ok-row-in-2 : goal.returns-in_ok-row-in-2
returns-in_ok-row-in-2 c = sym (call_row _ _ c.in-2.is ∙ row_named _ c.in_ok-row-in-2.ensures.cases.0)

pub returns-in-3 : goal.returns-in-3
returns-in-3 c = sym (call_merge _ _ c.in-3.is)

pub returns-in-4 : goal.returns-in-4
returns-in-4 c = sym (call_compact _ _ c.in-4.is)

pub returns-in-5 : goal.returns-in-5
returns-in-5 c = sym (call_clear _ _ c.in-5.is)

pub returns-in-6 : goal.returns-in-6
returns-in-6 c = c.decode_refresh.ensures ∙ sym (call_refresh _ _ c.in-6.is)

pub returns-in_default : goal.returns-in_default
returns-in_default c = sym (call_none _ _ (omega arith))

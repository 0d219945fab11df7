-- `query_spec::refusing::is_past_rows` meets its contract. Assumes nothing.
use Rattle.query_spec.proofs.RefusingSteps.{past_none, past_some}
use Rattle.query_spec.proofs.refusing.is_past_rows.Goals as goal

pub returns-in-None : goal.returns-in-None
returns-in-None c = past_none _ _ c.in-None.ensures

pub returns-in-Some : goal.returns-in-Some
returns-in-Some c = rw c.from.ensures (past_some _ _ _ c.in-Some.ensures)

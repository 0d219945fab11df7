-- `table::refusing::is_pending_outside` meets its contract. Assumes nothing.
use Rattle.table.proofs.Prelude.{sym, ◌∙◌}
use Rattle.table.proofs.RefusingSteps.{pending_some, pending_last}
use Rattle.table.proofs.refusing.is_pending_outside.Goals as goal

pub returns-then-is_outside : goal.returns-then-is_outside
returns-then-is_outside c = pending_some _ _ (sym c.is_outside.ensures ∙ c.if-is_outside.true)

pub returns : goal.returns
returns c = pending_last _ _ (sym c.is_outside.ensures ∙ c.if-is_outside.false)

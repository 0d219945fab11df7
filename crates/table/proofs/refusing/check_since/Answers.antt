-- `table::refusing::check_since` meets its contract. Assumes nothing.
use Rattle.table.proofs.Prelude.{sym, ◌∙◌}
use Rattle.table.proofs.RefusingSteps.{since_outside, since_above, since_none}
use Rattle.table.proofs.refusing.check_since.Goals as goal

pub returns-then-is_outside : goal.returns-then-is_outside
returns-then-is_outside c = since_outside _ _ (sym c.is_outside.ensures ∙ c.if-is_outside.true)

pub returns-then-h-row : goal.returns-then-h-row
returns-then-h-row c = since_above _ _ (sym c.is_outside.ensures ∙ c.if-is_outside.false) c.if-h-row.true

pub returns : goal.returns
returns c = since_none _ _ (sym c.is_outside.ensures ∙ c.if-is_outside.false) c.if-h-row.false

-- `table::refusing::check_version` meets its contract. Assumes nothing.
use Rattle.table.proofs.Prelude.{sym, ◌∙◌}
use Rattle.table.proofs.RefusingSteps.{version_outside, version_none}
use Rattle.table.proofs.refusing.check_version.Goals as goal

pub returns-then-not-is_outside : goal.returns-then-not-is_outside
returns-then-not-is_outside c = version_none _ (sym c.is_outside.ensures ∙ c.if-not-is_outside.true)

pub returns : goal.returns
returns c = version_outside _ (sym c.is_outside.ensures ∙ c.if-not-is_outside.false)

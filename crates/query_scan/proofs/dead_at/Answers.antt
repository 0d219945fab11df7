-- `query_scan::dead_at` meets its contract. Assumes nothing.
use Rattle.query_scan.proofs.Prelude.{sym, ◌∙◌}
use Rattle.query_scan.proofs.ScanSteps.{dead_none, dead_one}
use Rattle.query_scan.proofs.dead_at.Goals as goal

pub returns-then-is_live_at : goal.returns-then-is_live_at
returns-then-is_live_at c = dead_none _ _ _ (sym c.is_live_at.ensures ∙ c.if-is_live_at.true)

pub returns : goal.returns
returns c = dead_one _ _ _ (sym c.is_live_at.ensures ∙ c.if-is_live_at.false)

-- `query_scan::is_match` meets its contract. Assumes nothing.
use Rattle.query_scan.proofs.Prelude.{sym, ◌∙◌}
use Rattle.query_scan.proofs.ScanSteps.{match_unmet, match_met}
use Rattle.query_scan.proofs.is_match.Goals as goal

pub returns-then-not-is_met_at : goal.returns-then-not-is_met_at
returns-then-not-is_met_at c = match_unmet _ _ _ _ (sym c.is_met_at.ensures ∙ c.if-not-is_met_at.true)

pub returns : goal.returns
returns c = match_met _ _ _ _ _ (sym c.is_met_at.ensures ∙ c.if-not-is_met_at.false) c.is_live_at.ensures

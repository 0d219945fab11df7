-- `query_scan::is_live_at` meets its contract. Assumes nothing.
use Rattle.query_scan.proofs.Prelude.{sym, ap, ◌∙◌, not, arith, live_first}
use Rattle.query_scan.proofs.is_live_at.Goals as goal

pub returns : goal.returns
returns c = ap not (rw c.row_start-from.ensures at c.is_stale.ensures) ∙ sym (live_first _ _ _ (omega arith))

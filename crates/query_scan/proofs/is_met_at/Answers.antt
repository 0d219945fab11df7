-- `query_scan::is_met_at` meets its contract. Assumes nothing.
use Rattle.query_scan.proofs.Prelude.{ℕ, ap, ◌∙◌, List, met}
use Rattle.query_scan.proofs.ScanSteps.{row_part}
use Rattle.query_scan.proofs.is_met_at.Goals as goal

pub returns : goal.returns
returns c = rw c.row_start-from.ensures at c.met.ensures ∙ ap (λ (row : List ℕ). met row c.args.c) (row_part _ _ _)

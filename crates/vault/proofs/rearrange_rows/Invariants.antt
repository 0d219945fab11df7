-- `vault::rearrange_rows` meets its contract. Assumes nothing.
use Rattle.vault.proofs.Prelude.{◌-◌, ◌≤◌, Filled}
use Rattle.vault.proofs.rearrange_rows.Given as goal

abbrev pub invariant-loop-start : goal.invariant-loop-start
invariant-loop-start g l = (l.start ≤ l.rows) × Filled (g.D.Direction.order l.width l.cells) (g.D.Direction.place l.width l.rows) 0 l.start 0 l.width l.initial.output l.output

abbrev pub decreases-loop-start : goal.decreases-loop-start
decreases-loop-start g l = l.rows - l.start

-- `vault::rearrange_block` meets its contract. Assumes nothing.
use Rattle.vault.proofs.Prelude.{◌≤◌, Filled}
use Rattle.vault.proofs.rearrange_block.Given as goal

abbrev pub invariant-loop-column : goal.invariant-loop-column
invariant-loop-column g l = (l.column ≤ l.width) × Filled (g.D.Direction.order l.width l.cells) (g.D.Direction.place l.width l.rows) l.start l.end 0 l.column l.initial.output l.output

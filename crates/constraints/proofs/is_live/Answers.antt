-- `constraints::is_live` meets its contract. Assumes nothing.
use Rattle.constraints.specs.Constraints.{is_live}
use Rattle.constraints.proofs.is_live.Goals as goal

pub returns : goal.returns
unfolding is_live
returns c = simp (c.is_stale.ensures, c.cell.ensures)

-- `cells::is_stale` meets its contract. Assumes nothing.
use mathlib.Core.Path.{refl}
use Rattle.cells.specs.Cells.{is_dead}
use Rattle.cells.proofs.is_stale.Goals as goal

pub returns : goal.returns
unfolding is_dead
returns c = refl

-- `constraints::known` meets its contract. Assumes nothing.
use mathlib.Core.Path.{refl}
use Rattle.constraints.specs.Constraints.{known}
use Rattle.constraints.proofs.known.Goals as goal

pub returns : goal.returns
unfolding known
returns c = refl

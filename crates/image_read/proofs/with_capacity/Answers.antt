-- `image_read::with_capacity` meets its contract. Assumes nothing.
use Rattle.image_read.proofs.LoadingSteps.{capacity_kept, capacity_changed}
use Rattle.image_read.proofs.with_capacity.Goals as goal

pub returns-then-capacity-eq0 : goal.returns-then-capacity-eq0
returns-then-capacity-eq0 c = capacity_kept _ _ c.if-capacity-eq0.true

pub returns : goal.returns
returns c = capacity_changed _ _ c.if-capacity-eq0.false

-- `offsets_intersect::blocks::is_none_of` meets its contract. Assumes nothing.
use Rattle.offsets_intersect.proofs.Passing.{lacks_four}
use Rattle.offsets_intersect.proofs.blocks.is_none_of.Goals as goal

pub returns : goal.returns
returns c = lacks_four _ _

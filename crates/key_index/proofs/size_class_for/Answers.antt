-- `key_index::size_class_for` meets its contract. Assumes nothing.
use Rattle.key_index.proofs.Prelude.{arith}
use Rattle.key_index.specs.Slots.{size_class_for}
use Rattle.key_index.proofs.size_class_for.Goals as goal

pub returns : goal.returns
unfolding size_class_for
returns c = omega (arith, c.min.ensures, c.size_class.ensures)

-- `table::index_shape` meets its contract. Assumes nothing.
use Rattle.table.proofs.index_shape.Goals as goal

pub returns : goal.returns
returns c = rw c.size_class_for.ensures

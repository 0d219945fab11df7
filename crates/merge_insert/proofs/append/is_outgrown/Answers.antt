-- `merge_insert::append::is_outgrown` meets its contract. Assumes nothing.
use Rattle.merge_insert.specs.inner.Appending.{outgrown}
use Rattle.merge_insert.proofs.append.is_outgrown.Goals as goal

pub returns : goal.returns
unfolding outgrown
returns c = rw (c.size_class_for.ensures, c.size_class_for-2.ensures)

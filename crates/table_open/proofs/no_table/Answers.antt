-- `table_open::no_table` meets its contract. Assumes nothing.
use mathlib.Core.Path.{refl}
use Rattle.plain_table.specs.Staged.{openable}
use Rattle.table.specs.Refusing.{outside}
use Rattle.table_open.proofs.no_table.Goals as goal

pub returns : goal.returns
unfolding outside openable
returns c = refl

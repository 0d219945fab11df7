-- `table_stage::is_overfull` meets its contract. Assumes nothing.
use Rattle.table_stage.proofs.Prelude.{◌+◌, arith, lt-ltb, le-ltb}
use Rattle.plain_table.specs.Refusing.{overfull}
use Rattle.table_stage.proofs.is_overfull.Goals as goal

pub returns-then-pending-after : goal.returns-then-pending-after
unfolding overfull
returns-then-pending-after c = let a = c.args in rw (lt-ltb a.pending (a.used + (a.width + a.more)) c.if-pending-after.true)

pub returns : goal.returns
unfolding overfull
returns c = let a = c.args in rw (le-ltb a.pending (a.used + (a.width + a.more)) (omega arith))

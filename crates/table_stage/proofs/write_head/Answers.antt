-- `table_stage::write_head` meets its contract. Assumes nothing.
use Rattle.table_stage.proofs.Prelude.{arith, length-set, set_set_splice}
use Rattle.table_stage.proofs.write_head.Goals as goal

pub bounds-pending-at-2 : goal.bounds-pending-at-2
bounds-pending-at-2 c = simp length-set (omega arith)

pub returns : goal.returns
returns c = set_set_splice c.args.pending.now c.args.at c.args.kind c.args.hash (omega arith)

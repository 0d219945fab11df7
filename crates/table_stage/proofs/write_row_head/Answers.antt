-- `table_stage::write_row_head` meets its contract. Assumes nothing.
use Rattle.table_stage.proofs.Prelude.{arith, length-set, row_head}
use Rattle.table_stage.proofs.write_row_head.Goals as goal

pub bounds-pending-at-2 : goal.bounds-pending-at-2
bounds-pending-at-2 c = simp length-set (omega arith)

pub bounds-pending-at-3 : goal.bounds-pending-at-3
bounds-pending-at-3 c = simp length-set (omega arith)

pub returns : goal.returns
returns c = row_head c.args.pending.now c.args.at 2 c.args.hash c.args.row (omega arith)

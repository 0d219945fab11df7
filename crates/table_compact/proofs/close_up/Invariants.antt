-- `table_compact::close_up` meets its contract. Assumes nothing.
use Rattle.table_compact.proofs.Prelude.{◌-◌}
use Rattle.table_compact.proofs.CompactionSteps.{Iteration}
use Rattle.table_compact.proofs.close_up.Given as goal

abbrev pub invariant-loop-next : goal.invariant-loop-next
invariant-loop-next l = Iteration l.h l.initial.rows l.initial.sorts l.initial.live l.initial.base l.rows l.sorts l.live l.base l.kept l.next

abbrev pub decreases-loop-next : goal.decreases-loop-next
decreases-loop-next l = l.h.rows - l.next

-- `table_compact::keep_block` meets its contract. Assumes nothing.
use Rattle.table_compact.proofs.Prelude.{Block}
use Rattle.table_compact.proofs.CompactionSteps.{Going}
use Rattle.table_compact.proofs.keep_block.Given as goal

abbrev pub invariant-loop-word : goal.invariant-loop-word
invariant-loop-word l = (b : Block l.h l.initial.rows l.initial.sorts l.first l.live l.initial.kept) → Going b l.rows l.sorts l.kept l.word

abbrev pub decreases-loop-word : goal.decreases-loop-word
decreases-loop-word l = l.word

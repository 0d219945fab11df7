-- `refresh::write_block` meets its contract. Assumes nothing.
use Rattle.refresh.proofs.Prelude.{Block}
use Rattle.refresh.proofs.StageSteps.{Going}
use Rattle.refresh.proofs.write_block.Given as goal

abbrev pub invariant-loop-word : goal.invariant-loop-word
invariant-loop-word l = (b : Block l.h l.rows l.initial.pending l.before l.first l.marked l.stamp) → Going b l.pending l.used l.word

abbrev pub decreases-loop-word : goal.decreases-loop-word
decreases-loop-word l = l.word

-- `refresh::write_marked` meets its contract. Assumes nothing.
use Rattle.refresh.proofs.Prelude.{Stageable}
use Rattle.refresh.proofs.StageSteps.{Iteration}
use Rattle.refresh.proofs.write_marked.Given as goal

abbrev pub invariant-loop-group : goal.invariant-loop-group
invariant-loop-group l = (s : Stageable l.h l.rows l.initial.pending l.words l.count) → Iteration l.stamp s l.pending l.used l.group

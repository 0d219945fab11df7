-- `levels::run` meets its contract, and ends by the reads that are left. Assumes nothing.
use Rattle.levels.proofs.Prelude.{machine, input_left, Running}
use Rattle.levels.proofs.run.Given as goal

abbrev pub invariant-loop-stdin : goal.invariant-loop-stdin
invariant-loop-stdin l = Running (machine l.state l.line l.chunk l.rows l.keys l.sorts l.pending l.text)

abbrev pub decreases-loop-stdin : goal.decreases-loop-stdin
decreases-loop-stdin l = input_left l.state.input

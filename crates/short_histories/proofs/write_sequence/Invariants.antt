-- `short_histories::write_sequence` meets its contract. Assumes nothing.
use Rattle.short_histories.proofs.LoopSteps.{Writing}
use Rattle.short_histories.proofs.write_sequence.Given as goal

abbrev pub invariant-loop-at : goal.invariant-loop-at
invariant-loop-at l = Writing l.position l.initial.output l.output l.at l.rest

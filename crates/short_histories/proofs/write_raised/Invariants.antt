-- `short_histories::write_raised` meets its contract. The loop's invariant: the first `at` steps are written. Assumes nothing.
use Rattle.short_histories.proofs.Prelude.{◌≡◌, ◌++◌, take, drop}
use Rattle.short_histories.specs.inner.Raised.{raised}
use Rattle.short_histories.proofs.write_raised.Given as goal

abbrev pub invariant-loop-at : goal.invariant-loop-at
invariant-loop-at l = l.output ≡ take l.at (raised l.sequence l.end) ++ drop l.at l.initial.output

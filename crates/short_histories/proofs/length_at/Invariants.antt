-- `short_histories::length_at` meets its contract. Assumes nothing.
use Rattle.short_histories.proofs.Prelude.{◌+◌, ◌<◌, ◌≡◌, length, sequence_at}
use Rattle.short_histories.proofs.length_at.Given as goal

abbrev pub invariant-loop-rest : goal.invariant-loop-rest
invariant-loop-rest l = (l.rest < 137257) × (l.steps + length (sequence_at l.rest) ≡ length (sequence_at l.position))

abbrev pub decreases-loop-rest : goal.decreases-loop-rest
decreases-loop-rest l = l.rest

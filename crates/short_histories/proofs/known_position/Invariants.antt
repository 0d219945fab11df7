-- `short_histories::known_position` meets its contract. Assumes nothing.
use Rattle.short_histories.proofs.Prelude.{◌≡◌, take, position_of}
use Rattle.short_histories.proofs.known_position.Given as goal

abbrev pub invariant-loop-step : goal.invariant-loop-step
invariant-loop-step l = l.position ≡ position_of (take l.step-index l.sequence)

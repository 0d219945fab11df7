-- `offsets::search::gallop` meets its contract. Assumes nothing.
use Rattle.offsets.proofs.SearchSteps.{Strides}
use Rattle.offsets.proofs.search.gallop.Given as goal

abbrev pub invariant-loop-step : goal.invariant-loop-step
invariant-loop-step l = Strides l.ids l.target l.low l.left l.step

abbrev pub decreases-loop-step : goal.decreases-loop-step
decreases-loop-step l = l.left

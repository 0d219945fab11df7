-- `key_rebuild::renumber::renumber` meets its contract. Assumes nothing.
use Rattle.key_rebuild.proofs.Prelude.{◌-◌, slots}
use Rattle.key_rebuild.proofs.RenumberSteps.{Pass}
use Rattle.key_rebuild.proofs.renumber.renumber.Given as goal

abbrev pub invariant-loop-at : goal.invariant-loop-at
invariant-loop-at l = Pass l.t l.live l.base l.initial.store l.store l.at

abbrev pub decreases-loop-at : goal.decreases-loop-at
decreases-loop-at l = slots l.t - l.at

-- `offsets_intersect::blocks::are_apart` meets its contract. Assumes nothing.
use Rattle.offsets_intersect.proofs.Prelude.{◌≡◌, true, Apart}
use Rattle.offsets_intersect.proofs.blocks.are_apart.Given as goal

abbrev pub invariant-loop-id : goal.invariant-loop-id
invariant-loop-id l = l.apart ≡ true → Apart l.ids l.others l.id-index

-- `key_rebuild::renumber::half_bits` meets its contract. Assumes nothing.
use Rattle.key_rebuild.proofs.RenumberSteps.{Half}
use Rattle.key_rebuild.proofs.renumber.half_bits.Given as goal

abbrev pub invariant-loop-place : goal.invariant-loop-place
invariant-loop-place l = Half l.store l.from l.word l.place

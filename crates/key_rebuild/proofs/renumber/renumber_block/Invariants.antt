-- `key_rebuild::renumber::renumber_block` meets its contract. Assumes nothing.
use Rattle.key_rebuild.proofs.RenumberSteps.{Left}
use Rattle.key_rebuild.proofs.renumber.renumber_block.Given as goal

abbrev pub invariant-loop-word : goal.invariant-loop-word
invariant-loop-word l = Left l.t l.live l.base l.initial.store l.from l.count l.store l.word

abbrev pub decreases-loop-word : goal.decreases-loop-word
decreases-loop-word l = l.word

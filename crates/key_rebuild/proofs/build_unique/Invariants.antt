-- `key_rebuild::build_unique` meets its contract. Assumes nothing.
use Rattle.key_rebuild.proofs.UniqueSteps.{UniqueInvariant}
use Rattle.key_rebuild.proofs.build_unique.Given as goal

abbrev pub invariant-loop-row : goal.invariant-loop-row
invariant-loop-row l = UniqueInvariant l.t l.rows l.initial.store l.store l.row

-- `key_rebuild::rebuild` meets its contract. Assumes nothing.
use Rattle.key_rebuild.proofs.RebuildSteps.{RebuildInvariant}
use Rattle.key_rebuild.proofs.rebuild.Given as goal

abbrev pub invariant-loop-row : goal.invariant-loop-row
invariant-loop-row l = RebuildInvariant l.t l.rows l.initial.store l.store l.row

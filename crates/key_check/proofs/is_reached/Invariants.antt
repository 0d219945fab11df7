-- `key_check::is_reached` meets its contract. The loop's invariant: each slot passed is taken, has not the row's own word and leads
-- to no row with the key. Assumes nothing.
use Rattle.key_check.proofs.Prelude.{◌-◌, spread, ScannedSlots}
use Rattle.key_check.proofs.CheckSteps.{Past}
use Rattle.key_check.proofs.is_reached.Given as goal

abbrev pub invariant-loop-passed : goal.invariant-loop-passed
invariant-loop-passed l = ScannedSlots l.n l.store (Past l.t l.rows l.key l.hash l.row) (spread l.n l.hash) l.at l.passed

abbrev pub decreases-loop-passed : goal.decreases-loop-passed
decreases-loop-passed l = l.n - l.passed

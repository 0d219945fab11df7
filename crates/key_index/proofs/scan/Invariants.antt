-- `key_index::scan` meets its contract. The loop's invariant: each slot passed leads to no row with the key. Assumes nothing.
use Rattle.key_index.proofs.Prelude.{◌-◌, spread}
use Rattle.key_index.proofs.ScanSteps.{ScannedSlots}
use Rattle.key_index.proofs.FindSteps.{Past}
use Rattle.key_index.proofs.scan.Given as goal

abbrev pub invariant-loop-passed : goal.invariant-loop-passed
invariant-loop-passed g l = ScannedSlots l.slots l.store (Past l.t l.rows l.key l.hash) (spread l.slots l.hash) l.at l.passed

abbrev pub decreases-loop-passed : goal.decreases-loop-passed
decreases-loop-passed g l = l.slots - l.passed

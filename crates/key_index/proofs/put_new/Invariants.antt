-- `key_index::put_new` meets its contract. The loop's invariant: nothing is written, and each slot passed is taken and leads to no row
-- with the key. Assumes nothing.
use Rattle.key_index.proofs.Prelude.{◌-◌, ◌≡◌, length, spread}
use Rattle.key_index.proofs.ScanSteps.{ScannedSlots}
use Rattle.key_index.proofs.NewPutSteps.{Other}
use Rattle.key_index.proofs.put_new.Given as goal

abbrev pub invariant-loop-passed : goal.invariant-loop-passed
invariant-loop-passed l = (length l.store ≡ length l.initial.store) × (l.store ≡ l.initial.store) × ScannedSlots l.slots l.initial.store (Other l.t l.rows l.key l.hash) (spread l.slots l.hash) l.at l.passed

abbrev pub decreases-loop-passed : goal.decreases-loop-passed
decreases-loop-passed l = l.slots - l.passed

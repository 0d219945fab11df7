-- `key_index::put` meets its contract. The loop's invariant: nothing is written, and no slot passed is free. Assumes nothing.
use Rattle.key_index.proofs.Prelude.{◌-◌, ◌≡◌, length, spread}
use Rattle.key_index.proofs.ScanSteps.{ScannedSlots}
use Rattle.key_index.proofs.WindowSteps.{Taken}
use Rattle.key_index.proofs.put.Given as goal

abbrev pub invariant-loop-taken : goal.invariant-loop-taken
invariant-loop-taken l = (length l.store ≡ length l.initial.store) × (l.store ≡ l.initial.store) × ScannedSlots l.slots l.initial.store Taken (spread l.slots l.hash) l.place l.taken

abbrev pub decreases-loop-taken : goal.decreases-loop-taken
decreases-loop-taken l = l.slots - l.taken

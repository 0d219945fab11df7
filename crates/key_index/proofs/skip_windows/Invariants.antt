-- `key_index::skip_windows` meets its contract. The loop's invariant says it of the slots skipped so far. Assumes nothing.
use Rattle.key_index.proofs.Prelude.{ℕ, ◌+◌, ◌-◌, ◌<◌, false, get_or}
use Rattle.key_index.proofs.skip_windows.Given as goal

abbrev pub invariant-loop-run : goal.invariant-loop-run
invariant-loop-run g l = (l.from + l.run < l.slots) × ((k : ℕ) → k < l.run → goal.F-post g l.test (get_or l.store (l.from + k) 0) false)

abbrev pub decreases-loop-run : goal.decreases-loop-run
decreases-loop-run g l = l.slots - l.run

-- `key_check::count_taken` meets its contract. Assumes nothing.
use Rattle.key_check.proofs.Prelude.{◌-◌, ◌≤◌, ◌≡◌}
use Rattle.key_check.specs.inner.Check.{taken_count}
use Rattle.key_check.proofs.count_taken.Given as goal

abbrev pub invariant-loop-slot : goal.invariant-loop-slot
invariant-loop-slot l = (l.slot ≤ l.n) × (l.taken ≡ taken_count l.store l.slot)

abbrev pub decreases-loop-slot : goal.decreases-loop-slot
decreases-loop-slot l = l.n - l.slot

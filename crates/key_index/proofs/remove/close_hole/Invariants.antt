-- `key_index::remove::close_hole` meets its contract. Assumes nothing.
use Rattle.key_index.proofs.Prelude.{◌-◌}
use Rattle.key_index.proofs.ShiftSteps.{ShiftInvariant}
use Rattle.key_index.proofs.remove.close_hole.Given as goal

abbrev pub invariant-loop : goal.invariant-loop
invariant-loop l = ShiftInvariant l.t l.rows l.initial.store l.slot l.store l.hole l.held l.gap l.at (l.n - l.counter)

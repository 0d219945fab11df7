-- `sort_entries::advance` meets its contract. Loop invariant: the entries that later rows need. Measure: the number of remaining
-- entries. Assumes nothing.
use Rattle.sort_entries.proofs.Prelude.{◌-◌}
use Rattle.sort_entries.proofs.LawsCheck.{Advancing}
use Rattle.sort_entries.proofs.advance.Given as goal

abbrev pub invariant-loop-at : goal.invariant-loop-at
invariant-loop-at l = Advancing l.sorts l.entries l.from l.row l.at

abbrev pub decreases-loop-at : goal.decreases-loop-at
decreases-loop-at l = l.entries - l.at

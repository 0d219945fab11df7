-- `sort_entries::sort_cells_sound` meets its contract. Loop invariant: the check that the remaining rows must pass.
-- Assumes nothing.
use Rattle.sort_entries.proofs.LawsCheck.{Rest}
use Rattle.sort_entries.proofs.sort_cells_sound.Given as goal

abbrev pub invariant-loop-row : goal.invariant-loop-row
invariant-loop-row l = Rest l.store l.columns l.sort l.rows l.sorts l.entries l.at l.row

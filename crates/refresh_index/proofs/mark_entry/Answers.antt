-- `refresh_index::mark_entry` meets its contract. Assumes nothing.
use Rattle.refresh_index.proofs.Prelude.{sym, ap, ◌∙◌, not, arith, length, Inside, EntryInRange, entry_in_range}
use Rattle.refresh_index.specs.inner.Entries.{entry_row, entry_value}
use Rattle.refresh_index.proofs.Sizes.{Small, small, cell_in}
use Rattle.refresh_index.proofs.Leads.{live_by, dead_led, other_led, row_led}
use Rattle.refresh_index.proofs.mark_entry.Goals.{Start}
use Rattle.refresh_index.proofs.mark_entry.Goals as goal

lies : (s : Start) → EntryInRange s.args.h.rows (length s.args.columns.now) s.args.entry
lies s = entry_in_range _ _ _ s.requires.1

cell : (s : Start) → let a = s.args in Inside a.rows.now a.h.columns (entry_row a.columns.now a.entry)
cell s = (cell_in s.requires.0 _ _ (lies s).row_there (lies s).place_there).0

sizes : (s : Start) → Small s.args.h (length s.args.columns.now)
sizes s = small _ _ s.requires.0.inside s.requires.0.columns_few

pub nonzero_div-row : goal.nonzero_div-row
nonzero_div-row c = omega (arith, lies (goal.at.nonzero_div-row c).Start)

pub nonzero_rem-place : goal.nonzero_rem-place
nonzero_rem-place c = omega (arith, lies (goal.at.nonzero_rem-place c).Start)

pub overflow_cast-place : goal.overflow_cast-place
overflow_cast-place c = omega (arith, lies (goal.at.overflow_cast-place c).Start)

pub is_dead-requires : goal.is_dead-requires
is_dead-requires c = omega (arith, cell (goal.at.is_dead-requires c).Start, sizes (goal.at.is_dead-requires c).Start)

pub returns-then-is_dead : goal.returns-then-is_dead
returns-then-is_dead c =
    dead_led _ _ _ _ _ _ (live_by _ _ _ c.args.entry _ (sizes (goal.at.returns-then-is_dead c).Start).some_columns (rw c.row_start.ensures at c.is_dead.ensures) ∙ ap not c.if-is_dead.true)

pub cell_named-requires : goal.cell_named-requires
cell_named-requires c = (c.requires.0, (lies (goal.at.cell_named-requires c).Start).row_there, (lies (goal.at.cell_named-requires c).Start).place_there)

pub returns-then-cell_named-value : goal.returns-then-cell_named-value
unfolding entry_value
returns-then-cell_named-value c =
    other_led _ _ _ _ _ _ (live_by _ _ _ c.args.entry _ (sizes (goal.at.returns-then-cell_named-value c).Start).some_columns (rw c.row_start.ensures at c.is_dead.ensures) ∙ ap not c.if-is_dead.false) (λ e. c.if-cell_named-value.true (c.cell_named.ensures ∙ e))

pub mark-requires : goal.mark-requires
mark-requires c = (c.requires.2, omega (arith, sizes (goal.at.mark-requires c).Start, lies (goal.at.mark-requires c).Start))

pub returns : goal.returns
unfolding entry_value
returns c =
    row_led _ _ _ _ _ _ _ _ (live_by _ _ _ c.args.entry _ (sizes (goal.at.returns c).Start).some_columns (rw c.row_start.ensures at c.is_dead.ensures) ∙ ap not c.if-is_dead.false) (sym c.cell_named.ensures ∙ c.if-cell_named-value.false) (omega (arith, sizes (goal.at.returns c).Start, lies (goal.at.returns c).Start)) c.mark.ensures

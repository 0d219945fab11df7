-- `table_check::rows_sound` meets its contract. Assumes nothing.
use Rattle.table_check.proofs.Prelude.{sym, ◌∙◌}
use Rattle.table_check.proofs.CheckingSteps.{rows_miscounted, rows_unsorted, rows_exceeding, rows_decided}
use Rattle.table_check.proofs.rows_sound.Goals as goal

pub returns-then-h-dead_rows : goal.returns-then-h-dead_rows
returns-then-h-dead_rows c = rows_miscounted _ _ _ (λ e. c.if-h-dead_rows.true (e ∙ sym c.dead_rows.ensures))

pub returns-then-not-entries_sound : goal.returns-then-not-entries_sound
returns-then-not-entries_sound c = rows_unsorted _ _ _ (sym c.if-not-entries_sound.true ∙ c.entries_sound.ensures)

pub returns-then-not-largest_sound : goal.returns-then-not-largest_sound
returns-then-not-largest_sound c = rows_exceeding _ _ _ (sym c.if-not-entries_sound.false ∙ c.entries_sound.ensures) (sym c.if-not-largest_sound.true ∙ c.largest_sound.ensures)

pub returns : goal.returns
returns c =
    rows_decided _ _ _ (c.if-h-dead_rows.false ∙ c.dead_rows.ensures)
    (sym c.if-not-entries_sound.false ∙ c.entries_sound.ensures)
    (sym c.if-not-largest_sound.false ∙ c.largest_sound.ensures) _ c.sort_cells_sound.ensures

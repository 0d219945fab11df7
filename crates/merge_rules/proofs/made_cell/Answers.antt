-- `merge_rules::made_cell` meets its contract. Assumes nothing.
use Rattle.merge_rules.proofs.Prelude.{sym, ◌∙◌}
use Rattle.merge_rules.proofs.Laws.{cell_ruled, cell_new, cell_old}
use Rattle.merge_rules.proofs.made_cell.Goals as goal

pub returns-then-ruled_column : goal.returns-then-ruled_column
returns-then-ruled_column c =
    c.taken.ensures
    ∙ sym (cell_ruled _ _ _ _ _ _ (sym c.ruled_column.ensures ∙ c.if-ruled_column.true))

pub returns-then-column-sort : goal.returns-then-column-sort
returns-then-column-sort c =
    sym (cell_new _ _ _ _ _ _ (sym c.ruled_column.ensures ∙ c.if-ruled_column.false) c.if-column-sort.true)

pub returns-else-column-sort : goal.returns-else-column-sort
returns-else-column-sort c =
    sym (cell_old _ _ _ _ _ _ (sym c.ruled_column.ensures ∙ c.if-ruled_column.false) c.if-column-sort.false)

-- `levels_answer::calls::open_table` meets its contract. Assumes nothing.
use Rattle.levels_answer.proofs.Prelude.{large_served, open_served}
use Rattle.levels_answer.proofs.calls.open_table.Goals as goal

pub returns-then-capacity-gt-MOST_ROWS : goal.returns-then-capacity-gt-MOST_ROWS
returns-then-capacity-gt-MOST_ROWS c = large_served _ _ c.if-capacity-gt-MOST_ROWS.true

pub returns : goal.returns
returns c = open_served c.taken.ensures _ c.if-capacity-gt-MOST_ROWS.false c.open_table-opened.ensures

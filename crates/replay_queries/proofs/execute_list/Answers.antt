-- `replay_queries::execute_list` meets its contract. Assumes nothing.
use Rattle.replay_queries.proofs.ExecutingSteps.{listed_cut, listed_long, listed_whole}
use Rattle.replay_queries.proofs.execute_list.Goals as goal

pub returns-then-count-cells : goal.returns-then-count-cells
returns-then-count-cells c = listed_cut _ c.if-count-cells.true

pub returns-then-count-gt-MOST_CONDITIONS : goal.returns-then-count-gt-MOST_CONDITIONS
returns-then-count-gt-MOST_CONDITIONS c = listed_long _ c.if-count-cells.false c.if-count-gt-MOST_CONDITIONS.true

pub returns : goal.returns
returns c = listed_whole _ _ c.if-count-cells.false c.if-count-gt-MOST_CONDITIONS.false c.read_conditions-conditions.ensures c.refine_first.ensures c.apply_answer.ensures

-- `replay_queries::execute` meets its contract. Assumes nothing.
use Rattle.offsets.specs.Laws.Subsets.{range_is, list_is}
use Rattle.replay_queries.proofs.Prelude.{arith}
use Rattle.replay_queries.proofs.ExecutingSteps.{execute_short, execute_short_ends, execute_short_range, execute_none, execute_list, put_ids, put_ends, put_one, execute_fast}
use Rattle.replay_queries.proofs.execute.Goals as goal

pub returns-in-0 : goal.returns-in-0
returns-in-0 c = put_one _ _ c.in-0.is c.if-cells-eq-CONDITION_WORDS.true c.read_condition-c.ensures c.refine_one.ensures c.apply_answer.ensures

pub returns-in-1 : goal.returns-in-1
returns-in-1 c = execute_list _ _ c.in-1.is c.execute_list.ensures

pub returns-in-2 : goal.returns-in-2
returns-in-2 c = put_ids _ _ c.in-2.is (rw list_is at c.intersect.ensures) c.apply_answer-in-2.ensures

pub returns-in-3 : goal.returns-in-3
returns-in-3 c = put_ends _ _ c.in-3.is c.if-cells-eq-RANGE_WORDS.true (rw range_is at c.intersect-in-3.ensures) c.apply_answer-in-3.ensures

pub returns-in-4 : goal.returns-in-4
returns-in-4 c = execute_fast _ _ c.in-4.is c.if-cells-eq-CONDITION_WORDS-2.true c.read_condition-c-in-4.ensures c.execute_range.ensures

pub returns-in_default : goal.returns-in_default
returns-in_default c = execute_short _ _ c.in-0.is c.if-cells-eq-CONDITION_WORDS.false

pub returns-in_default-2 : goal.returns-in_default-2
returns-in_default-2 c = execute_short_ends _ _ c.in-3.is c.if-cells-eq-RANGE_WORDS.false

pub returns-in_default-3 : goal.returns-in_default-3
returns-in_default-3 c = execute_short_range _ _ c.in-4.is c.if-cells-eq-CONDITION_WORDS-2.false

pub returns-in_default-4 : goal.returns-in_default-4
returns-in_default-4 c = execute_none _ _ (omega arith)

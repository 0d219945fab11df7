-- `short_histories::step_at` meets its contract. Assumes nothing.
use Rattle.short_histories.proofs.Prelude.{arith}
use Rattle.short_histories.specs.Laws.Steps.{steps_answered, answered_at, step_unknown}
use Rattle.short_histories.proofs.step_at.Goals as goal

pub returns-in-0 : goal.returns-in-0
returns-in-0 c = answered_at 0 _ _ steps_answered.0 c.in-0.is

pub returns-in-1 : goal.returns-in-1
returns-in-1 c = answered_at 1 _ _ steps_answered.1 c.in-1.is

pub returns-in-2 : goal.returns-in-2
returns-in-2 c = answered_at 2 _ _ steps_answered.2 c.in-2.is

pub returns-in-3 : goal.returns-in-3
returns-in-3 c = answered_at 3 _ _ steps_answered.3 c.in-3.is

pub returns-in-4 : goal.returns-in-4
returns-in-4 c = answered_at 4 _ _ steps_answered.4 c.in-4.is

pub returns-in-5 : goal.returns-in-5
returns-in-5 c = answered_at 5 _ _ steps_answered.5 c.in-5.is

pub returns-in-6 : goal.returns-in-6
returns-in-6 c = answered_at 6 _ _ steps_answered.6 c.in-6.is

pub returns-in_default : goal.returns-in_default
returns-in_default c = step_unknown _ (omega arith)

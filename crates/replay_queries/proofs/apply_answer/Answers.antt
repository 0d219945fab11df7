-- `replay_queries::apply_answer` meets its contract. Assumes nothing.
use Rattle.replay_queries.proofs.ExecutingSteps.{left_refused, left_range, left_list}
use mathlib.Core.Path.{refl, ap, ◌∙◌}
use Rattle.std.specs.Prelude.{Ok}
use Rattle.replay_queries.proofs.apply_answer.Goals as goal

pub returns-in-Err : goal.returns-in-Err
returns-in-Err c = left_refused _ _ _ _ _ c.count_one.ensures c.in-Err.is

pub returns-in-Ok-Range : goal.returns-in-Ok-Range
returns-in-Ok-Range c = left_range _ _ _ _ _ _ _ refl (c.in-Ok-Range.is ∙ ap Ok (rw c.in-Ok-Range.is at c.in-Ok-Range.field-0-is))

pub returns-in-Ok-List : goal.returns-in-Ok-List
returns-in-Ok-List c = left_list _ _ _ _ _ _ refl (c.in-Ok-List.is ∙ ap Ok (rw c.in-Ok-List.is at c.in-Ok-List.field-0-is))

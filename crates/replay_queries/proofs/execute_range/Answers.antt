-- `replay_queries::execute_range` meets its contract. Assumes nothing.
use Rattle.std.specs.Prelude.{Ok}
use Rattle.std.proofs.Common.{ap, ◌∙◌}
use Rattle.offsets.specs.Laws.Subsets.{range_is}
use Rattle.replay_queries.proofs.ExecutingSteps.{range_refused, range_none, range_found}
use Rattle.replay_queries.proofs.execute_range.Goals as goal

pub returns-in-Err : goal.returns-in-Err
returns-in-Err c = range_refused c.fast_subset-found.ensures _ c.in-Err.is c.count_one.ensures

pub returns-in-Ok-None : goal.returns-in-Ok-None
returns-in-Ok-None c = range_none c.fast_subset-found.ensures (c.in-Ok-None.is ∙ ap Ok (rw c.in-Ok-None.is at c.in-Ok-None.field-0-is)) c.count_one-in-Ok-None.ensures

pub returns-in-Ok-Some : goal.returns-in-Ok-Some
returns-in-Ok-Some c = range_found c.fast_subset-found.ensures _ (c.in-Ok-Some.is ∙ ap Ok (rw c.in-Ok-Some.is at c.in-Ok-Some.field-0-is)) (rw range_is at c.intersect.ensures) c.apply_answer.ensures

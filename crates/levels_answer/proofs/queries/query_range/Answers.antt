-- `levels_answer::queries::query_range` meets its contract. Assumes nothing.
use Rattle.levels_answer.proofs.Prelude.{range_served}
use Rattle.levels_answer.proofs.queries.query_range.Goals as goal

pub returns : goal.returns
returns c = range_served _ c.respond_range.ensures c.fast_subset.ensures

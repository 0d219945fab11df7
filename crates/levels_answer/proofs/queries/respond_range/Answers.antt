-- `levels_answer::queries::respond_range` meets its contract. Assumes nothing.
use Rattle.std.specs.Prelude.{Ok}
use mathlib.Core.Path.{ap, ◌∙◌}
use Rattle.levels_answer.proofs.Prelude.{range_refused, range_none, range_ends}
use Rattle.levels_answer.proofs.queries.respond_range.Goals as goal

pub returns-in-Err : goal.returns-in-Err
returns-in-Err c = range_refused _ _ c.in-Err.is

pub returns-in-None : goal.returns-in-None
returns-in-None c = range_none _ (c.in-Ok.is ∙ ap Ok c.in-None.is)

pub returns-in-Some : goal.returns-in-Some
returns-in-Some c = range_ends _ _ (c.in-Ok.is ∙ ap Ok c.in-Some.is)

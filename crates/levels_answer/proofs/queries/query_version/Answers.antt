-- `levels_answer::queries::query_version` meets its contract. Assumes nothing.
use Rattle.levels_answer.proofs.Prelude.{version_served}
use Rattle.levels_answer.proofs.queries.query_version.Goals as goal

pub returns : goal.returns
returns c = version_served c.respond_version.ensures c.version.ensures

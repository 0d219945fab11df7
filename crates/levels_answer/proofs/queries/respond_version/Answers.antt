-- `levels_answer::queries::respond_version` meets its contract. Assumes nothing.
use Rattle.levels_answer.proofs.Prelude.{version_response, version_refused, version_responds}
use Rattle.levels_answer.proofs.queries.respond_version.Goals as goal

pub returns-in-Err : goal.returns-in-Err
returns-in-Err c = version_refused _ _ version_response c.in-Err.is

pub returns-in-Ok : goal.returns-in-Ok
returns-in-Ok c = version_responds _ _ version_response c.in-Ok.is

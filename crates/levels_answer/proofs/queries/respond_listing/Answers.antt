-- `levels_answer::queries::respond_listing` meets its contract. Assumes nothing.
use Rattle.levels_answer.proofs.Prelude.{listing_response, version_refused, version_responds}
use Rattle.levels_answer.proofs.queries.respond_listing.Goals as goal

pub returns-in-Err : goal.returns-in-Err
returns-in-Err c = version_refused _ _ (listing_response _) c.in-Err.is

pub returns-in-Ok : goal.returns-in-Ok
returns-in-Ok c = version_responds _ _ (listing_response _) c.in-Ok.is

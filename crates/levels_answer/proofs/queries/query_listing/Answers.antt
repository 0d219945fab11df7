-- `levels_answer::queries::query_listing` meets its contract. Assumes nothing.
use Rattle.levels_answer.proofs.Prelude.{listing_served}
use Rattle.levels_answer.proofs.queries.query_listing.Goals as goal

pub returns : goal.returns
returns c = listing_served c.args.numbered c.respond_listing.ensures c.version.ensures

-- `listing_check::meets_all` meets its contract. Assumes nothing.
use Rattle.listing_check.proofs.Prelude.{◌∙◌}
use Rattle.listing_check.proofs.Conditions.{row_meets}
use Rattle.listing_check.proofs.meets_all.Goals as goal

pub returns : goal.returns
returns c = c.is_match.ensures ∙ row_meets c.args.h c.args.cells c.args.conditions.now

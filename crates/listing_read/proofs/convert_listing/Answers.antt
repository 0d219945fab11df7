-- `listing_read::convert_listing` meets its contract. Assumes nothing.
use Rattle.listing_read.proofs.Prelude.{sym, ◌∙◌}
use Rattle.listing_read.proofs.Answers.{converted_wrong}
use Rattle.listing_read.proofs.convert_listing.Goals as goal

pub convert_found-requires : goal.convert_found-requires
convert_found-requires c = c.scan_text-s.ensures.found c.if-s.true

pub returns-then-s : goal.returns-then-s
returns-then-s c = c.convert_found.ensures

pub returns : goal.returns
returns c = converted_wrong _ _ _ (sym c.scan_text-s.ensures.tested ∙ c.if-s.false)

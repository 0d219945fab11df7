-- `listing_read::read` meets its contract. Assumes nothing.
use Rattle.listing_read.proofs.Prelude.{sym, ◌∙◌}
use borrow.Author.Tests.{not-true, not-false}
use Rattle.listing_read.proofs.Reading.{read_wrong}
use Rattle.listing_read.proofs.read.Goals as goal

pub returns-then-not-s : goal.returns-then-not-s
returns-then-not-s c = read_wrong _ _ _ (sym c.scan_text-s.ensures.tested ∙ not-true _ c.if-not-s.true)

pub read_found-requires : goal.read_found-requires
read_found-requires c = c.scan_text-s.ensures.found (not-false _ c.if-not-s.false)

pub returns : goal.returns
returns c = c.read_found.ensures

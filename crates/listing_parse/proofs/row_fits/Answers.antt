-- `listing_parse::row_fits` meets its contract. Assumes nothing.
use Rattle.listing_spec.specs.Listings.{prefix_width}
use Rattle.listing_parse.proofs.Rows.{dead_numbered, too_low, below_count, not_dead}
use Rattle.listing_parse.proofs.row_fits.Goals as goal

pub bounds-numbers-1 : goal.bounds-numbers-1
unfolding prefix_width
bounds-numbers-1 c = rw c.if-numbered.true at c.requires

pub returns-then-numbers : goal.returns-then-numbers
returns-then-numbers c = rw c.if-numbered.true (dead_numbered _ _ _ c.if-numbers.true)

pub returns-then-numbers-least : goal.returns-then-numbers-least
returns-then-numbers-least c = rw c.if-numbered.true (too_low _ _ _ c.if-numbers.false c.if-numbers-least.true)

pub returns-then-numbered : goal.returns-then-numbered
returns-then-numbered c = rw c.if-numbered.true (below_count _ _ _ c.if-numbers.false c.if-numbers-least.false)

pub returns : goal.returns
returns c = rw c.if-numbered.false (not_dead _ _ _)

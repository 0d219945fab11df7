-- `listing_parse::row_width` meets its contract. Assumes nothing.
use Rattle.listing_spec.specs.Listings.{prefix_width}
use borrow.Author.Rules.{rules}
use Rattle.listing_parse.proofs.row_width.Goals as goal

pub overflow_add-result : goal.overflow_add-result
unfolding prefix_width
overflow_add-result c = search rules

pub returns-then-numbered : goal.returns-then-numbered
unfolding prefix_width
returns-then-numbered c = rw c.if-numbered.true

pub returns : goal.returns
unfolding prefix_width
returns c = rw c.if-numbered.false (search rules)

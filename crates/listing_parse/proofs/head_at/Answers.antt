-- `listing_parse::head_at` meets its contract. Assumes nothing.
use Rattle.listing_parse.proofs.Heads.{head_no_line, head_large, head_unbound, head_found}
use borrow.Author.Rules.{rules}
use Rattle.listing_parse.proofs.head_at.Goals as goal

pub returns-then-next-eq0 : goal.returns-then-next-eq0
returns-then-next-eq0 c = head_no_line _ _ c.first_line-next.ensures c.if-next-eq0.true

pub returns-then-count_in-gt65536 : goal.returns-then-count_in-gt65536
returns-then-count_in-gt65536 c = head_large _ _ (c.first_line-next.ensures.found (search rules)) _ c.count_in.ensures c.if-count_in-gt65536.true

pub returns-then-keeps_bounds : goal.returns-then-keeps_bounds
returns-then-keeps_bounds c = head_found _ _ (c.first_line-next.ensures.found (search rules)) _ c.count_in.ensures c.if-count_in-gt65536.false c.keeps_bounds.ensures c.if-keeps_bounds.true

pub returns : goal.returns
returns c = head_unbound _ _ (c.first_line-next.ensures.found (search rules)) _ c.count_in.ensures c.if-count_in-gt65536.false c.keeps_bounds.ensures c.if-keeps_bounds.false

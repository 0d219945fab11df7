-- `listing_parse::ends_line` meets its contract. Assumes nothing.
use Rattle.listing_parse.proofs.Prelude.{length, le-ltb, lt-ltb, rules}
use Rattle.listing_parse.specs.inner.Lines.{ends_line}
use Rattle.listing_parse.proofs.ends_line.Goals as goal

pub returns-then-text-lt1 : goal.returns-then-text-lt1
unfolding ends_line
returns-then-text-lt1 c = rw (le-ltb 0 (length c.args.text.now) (search rules))

pub overflow_sub-result : goal.overflow_sub-result
unfolding ends_line
overflow_sub-result c = search rules

pub bounds-text-text : goal.bounds-text-text
unfolding ends_line
bounds-text-text c = search rules

pub returns : goal.returns
unfolding ends_line
returns c = rw (lt-ltb 0 (length c.args.text.now) (search rules))

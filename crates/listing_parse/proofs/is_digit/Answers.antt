-- `listing_parse::is_digit` meets its contract. Assumes nothing.
use Rattle.listing_parse.proofs.Prelude.{lt-leb, le-leb}
use Rattle.listing_parse.proofs.is_digit.Goals as goal

pub returns-then-byte-lt48 : goal.returns-then-byte-lt48
returns-then-byte-lt48 c = rw (lt-leb 48 _ c.if-byte-lt48.true)

pub returns : goal.returns
returns c = rw (le-leb 48 _ c.if-byte-lt48.false)

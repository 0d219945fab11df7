-- `abi::decode_columns` meets its contract. Assumes nothing.
use borrow.Author.Tests.{le-leb, lt-leb}
use Rattle.abi.specs.Encoding.{decode_columns}
use Rattle.abi.proofs.decode_columns.Goals as goal

pub returns-then-flag-le1 : goal.returns-then-flag-le1
unfolding decode_columns
returns-then-flag-le1 c = rw (le-leb _ _ c.if-flag-le1.true)

pub returns : goal.returns
unfolding decode_columns
returns c = rw (lt-leb _ _ c.if-flag-le1.false)

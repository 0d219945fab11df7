-- `abi::decode_largest` meets its contract. Assumes nothing.
use borrow.Author.Rules.{rules}
use Rattle.abi.specs.Encoding.{decode_largest}
use Rattle.abi.proofs.decode_largest.Goals as goal

pub returns : goal.returns
unfolding decode_largest
returns c = search rules

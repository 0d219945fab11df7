-- `abi::encode_merge` meets its contract. Assumes nothing.
use Rattle.abi.specs.Encoding.{encode_merge}
use borrow.Author.Rules.{rules}
use Rattle.abi.proofs.encode_merge.Goals as goal

pub returns : goal.returns
unfolding encode_merge
returns c = search rules

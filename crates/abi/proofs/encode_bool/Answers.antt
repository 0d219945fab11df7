-- `abi::encode_bool` meets its contract. Assumes nothing.
use Rattle.abi.specs.Encoding.{encode_bool}
use borrow.Author.Rules.{rules}
use Rattle.abi.proofs.encode_bool.Goals as goal

pub returns : goal.returns
unfolding encode_bool
returns c = search rules

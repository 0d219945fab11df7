-- `abi::encode_header` meets its contract. Assumes nothing.
use Rattle.abi.specs.Encoding.{encode_option, encode_header}
use Rattle.abi.proofs.encode_header.Goals as goal

pub returns : goal.returns
unfolding encode_option encode_header
returns c = rw c.encode_option-words.ensures

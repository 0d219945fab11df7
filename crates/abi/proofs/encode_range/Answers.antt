-- `abi::encode_range` meets its contract. Assumes nothing.
use Rattle.abi.specs.Encoding.{encode_range, range_of}
use Rattle.abi.proofs.encode_range.Goals as goal

pub returns-in-None : goal.returns-in-None
unfolding encode_range range_of
returns-in-None c = rw c.in-None.is

pub returns-in-Some : goal.returns-in-Some
unfolding encode_range range_of
returns-in-Some c = rw c.in-Some.is

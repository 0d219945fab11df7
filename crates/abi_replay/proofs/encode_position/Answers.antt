-- `abi_replay::encode_position` meets its contract. Assumes nothing.
use Rattle.std.proofs.Common.{refl}
use Rattle.abi.specs.Encoding.{encode_number}
use Rattle.abi_replay.proofs.encode_position.Goals as goal

pub returns : goal.returns
unfolding encode_number
returns c = refl

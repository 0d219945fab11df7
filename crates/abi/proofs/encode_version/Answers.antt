-- `abi::encode_version` meets its contract. Assumes nothing.
use Rattle.abi.proofs.Prelude.{refl}
use Rattle.abi.specs.Encoding.{encode_version}
use Rattle.abi.proofs.encode_version.Goals as goal

pub returns : goal.returns
unfolding encode_version
returns c = refl

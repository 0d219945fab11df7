-- `abi::decode_header` meets its contract. Assumes nothing.
use Rattle.abi.specs.Encoding.{decode_header}
use lib.Seq.{get_or-drop}
use Rattle.abi.proofs.decode_header.Goals as goal

pub returns : goal.returns
unfolding decode_header
returns c = rw (c.decode_columns.ensures, c.decode_largest.ensures) (simp get_or-drop)

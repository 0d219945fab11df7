-- `abi::encode_option` meets its contract. Assumes nothing.
use mathlib.Core.Option.{Option-elim}
use Rattle.table.specs.Numbers.{largest_view}
use Rattle.abi.specs.Encoding.{encode_option}
use Rattle.abi.proofs.encode_option.Goals as goal

pub returns-in-None : goal.returns-in-None
unfolding encode_option largest_view Option-elim
returns-in-None c = rw c.in-None.is

pub returns-in-Some : goal.returns-in-Some
unfolding encode_option largest_view Option-elim
returns-in-Some c = rw c.in-Some.is

-- `abi_vault::number_of` meets its contract. Assumes nothing.
use Rattle.refusals.specs.Refusals.{answer_view}
use Rattle.abi.specs.Encoding.{returned}
use Rattle.abi_vault.proofs.number_of.Goals as goal

pub returns-in-Err : goal.returns-in-Err
unfolding answer_view returned
returns-in-Err c = rw c.in-Err.is c.into.ensures

pub returns-in-Ok : goal.returns-in-Ok
unfolding answer_view returned
returns-in-Ok c = rw c.in-Ok.is

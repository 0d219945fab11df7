-- `abi_listing::store_length` meets its contract. Assumes nothing.
use Rattle.abi_listing.proofs.Prelude.{refl, stored_as}
use Rattle.abi.specs.Encoding.{encode_number, returned}
use Rattle.refusals.specs.Refusals.{answer_view, if_accepted}
use Rattle.abi_listing.proofs.store_length.Goals as goal

pub returns-in-Err : goal.returns-in-Err
unfolding answer_view encode_number returned if_accepted
returns-in-Err c = stored_as c.in-Err.is c.into.ensures refl

pub returns-in-Ok : goal.returns-in-Ok
unfolding answer_view encode_number returned if_accepted
returns-in-Ok c = stored_as c.in-Ok.is refl refl

-- `abi_image::store_length` meets its contract. Assumes nothing.
use mathlib.Core.Path.{refl}
use Rattle.refusals.specs.Refusals.{if_accepted, answer_view}
use Rattle.abi.specs.Encoding.{encode_number, returned}
use Rattle.abi.specs.Laws.Encoding.{stored_as}
use Rattle.abi_image.proofs.store_length.Goals as goal

pub returns-in-Err : goal.returns-in-Err
unfolding answer_view encode_number returned if_accepted
returns-in-Err c = stored_as c.in-Err.is c.into.ensures refl

pub returns-in-Ok : goal.returns-in-Ok
unfolding answer_view encode_number returned if_accepted
returns-in-Ok c = stored_as c.in-Ok.is refl refl

-- `abi_listing::store_listing` meets its contract. Assumes nothing.
use Rattle.abi_listing.proofs.Prelude.{refl, stored_as}
use Rattle.listing_spec.specs.Listings.{listing_view}
use Rattle.abi.specs.Encoding.{returned}
use Rattle.refusals.specs.Refusals.{if_accepted}
use Rattle.abi_listing.proofs.store_listing.Goals as goal

pub returns-in-Err : goal.returns-in-Err
unfolding listing_view returned if_accepted
returns-in-Err c = stored_as c.in-Err.is c.into.ensures refl

pub returns-in-Ok : goal.returns-in-Ok
unfolding listing_view returned if_accepted
returns-in-Ok c = stored_as c.in-Ok.is refl refl

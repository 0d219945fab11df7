-- `abi::store_page` meets its contract. Assumes nothing.
use Rattle.abi.proofs.Prelude.{refl, stored_as}
use Rattle.query_spec.specs.Queries.{page_view, next_view}
use Rattle.abi.specs.Encoding.{encode_option, encode_page, returned}
use Rattle.refusals.specs.Refusals.{if_accepted}
use mathlib.Core.Option.{Option-elim}
use Rattle.abi.proofs.store_page.Goals as goal

pub returns-in-Err : goal.returns-in-Err
unfolding page_view next_view encode_option Option-elim encode_page returned if_accepted
returns-in-Err c = stored_as c.in-Err.is c.into.ensures refl

pub returns-in-None : goal.returns-in-None
unfolding page_view next_view encode_option Option-elim encode_page returned if_accepted
returns-in-None c = stored_as c.in-Ok.is refl (rw c.in-None.is refl)

pub returns-in-Some : goal.returns-in-Some
unfolding page_view next_view encode_option Option-elim encode_page returned if_accepted
returns-in-Some c = stored_as c.in-Ok.is refl (rw c.in-Some.is refl)

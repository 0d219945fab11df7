-- `abi_listing::store_check` meets its contract. Assumes nothing.
use Rattle.std.specs.Prelude.{ℕ, Ok, Some}
use mathlib.Core.Path.{ap, ◌∙◌}
use Rattle.abi_listing.proofs.Prelude.{refl, stored_as, [], ◌∷◌}
use Rattle.listing_check.specs.Answers.{check_view}
use Rattle.abi_listing.specs.Encoding.{encode_finding}
use Rattle.abi.specs.Encoding.{returned}
use Rattle.refusals.specs.Refusals.{if_accepted}
use Rattle.abi_listing.proofs.store_check.Goals as goal

pub returns-in-Err : goal.returns-in-Err
unfolding check_view returned if_accepted
returns-in-Err c = stored_as c.in-Err.is c.into.ensures refl

pub returns-in-None : goal.returns-in-None
unfolding check_view encode_finding returned if_accepted
returns-in-None c = stored_as (c.in-Ok.is ∙ ap Ok c.in-None.is) refl refl

pub returns-in-Misplaced : goal.returns-in-Misplaced
unfolding check_view encode_finding returned if_accepted
returns-in-Misplaced c = stored_as (c.in-Ok.is ∙ ap Ok (c.in-Some.is ∙ ap Some c.in-Misplaced.is)) refl refl

pub returns-in-Wrong : goal.returns-in-Wrong
unfolding check_view encode_finding returned if_accepted
returns-in-Wrong c = stored_as (c.in-Ok.is ∙ ap Ok (c.in-Some.is ∙ ap Some c.in-Wrong.is)) refl (ap (λ (n : ℕ). 2 ∷ n ∷ []) c.from.ensures)

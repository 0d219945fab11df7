-- `abi_precedence::mouldgrey_check_precedence` meets its contract. Assumes nothing.
use mathlib.Core.Path.{sym}
use Rattle.std.specs.Prelude.{Option as Optional, None, Some, Ok, ◌≡◌, refl}
use Rattle.refusals.specs.Refusals.{accepted, found_view}
use Rattle.precedence.specs.declared.Failure.{Failure}
use Rattle.abi.specs.Laws.Encoding.{answers, stored_result}
use Rattle.abi_precedence.specs.Encoding.{failure_of}
use Rattle.abi_precedence.proofs.mouldgrey_check_precedence.Goals as goal

failure_value : (v : Optional Failure) → found_view (Ok v) ≡ accepted (failure_of v)
unfolding found_view failure_of
failure_value None = refl
failure_value (Some f) = refl

pub returns : goal.returns
unfolding found_view
returns c = rw (sym c.decode_header.ensures) (answers c.check_precedence-answer.ensures (stored_result failure_of failure_value (λ r. refl) _ c.store.ensures.refused c.store.ensures.accepted))

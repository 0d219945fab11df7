-- `short_histories::position_of` meets its contract. Assumes nothing.
use Rattle.short_histories.proofs.Prelude.{sym, ◌∙◌, position_refused, position_answered}
use Rattle.short_histories.proofs.position_of.Goals as goal

pub returns-then-not-is_known : goal.returns-then-not-is_known
returns-then-not-is_known c = position_refused _ (sym c.is_known.ensures ∙ c.if-not-is_known.true)

pub known_position-requires : goal.known_position-requires
known_position-requires c = sym c.is_known.ensures ∙ c.if-not-is_known.false

pub returns : goal.returns
returns c = position_answered _ (sym c.is_known.ensures ∙ c.if-not-is_known.false) _ c.known_position.ensures.0

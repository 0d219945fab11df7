-- `table::refusing::check_sound` meets its contract. Assumes nothing.
use Rattle.table.proofs.Prelude.{sym, ◌∙◌}
use Rattle.table.proofs.RefusingSteps.{inside_alone, sound_outside, sound_short, sound_none}
use Rattle.table.proofs.refusing.check_sound.Goals as goal

pub returns-then-is_pending_outside : goal.returns-then-is_pending_outside
returns-then-is_pending_outside c = sound_outside _ _ _ _ _ (sym c.is_pending_outside.ensures ∙ c.if-is_pending_outside.true)

pub is_stores_short-requires : goal.is_stores_short-requires
is_stores_short-requires c = inside_alone _ _ (sym c.is_pending_outside.ensures ∙ c.if-is_pending_outside.false)

pub returns-then-is_stores_short : goal.returns-then-is_stores_short
returns-then-is_stores_short c = sound_short _ _ (sym c.is_pending_outside.ensures ∙ c.if-is_pending_outside.false) (sym c.is_stores_short.ensures ∙ c.if-is_stores_short.true)

pub returns : goal.returns
returns c = sound_none _ _ (sym c.is_pending_outside.ensures ∙ c.if-is_pending_outside.false) (sym c.is_stores_short.ensures ∙ c.if-is_stores_short.false)

-- `table::refusing::check_open` meets its contract. Assumes nothing.
use Rattle.table.proofs.Prelude.{sym, ◌∙◌}
use Rattle.table.proofs.RefusingSteps.{open_outside, open_short, open_none}
use Rattle.table.proofs.refusing.check_open.Goals as goal

pub returns-then-is_outside : goal.returns-then-is_outside
returns-then-is_outside c = open_outside _ _ c.requires (sym c.is_outside.ensures ∙ c.if-is_outside.true)

pub is_stores_short-requires : goal.is_stores_short-requires
is_stores_short-requires c = (sym c.is_outside.ensures ∙ c.if-is_outside.false)

pub returns-then-not-is_stores_short : goal.returns-then-not-is_stores_short
returns-then-not-is_stores_short c = open_none _ _ c.requires (sym c.is_outside.ensures ∙ c.if-is_outside.false) (sym c.is_stores_short.ensures ∙ c.if-not-is_stores_short.true)

pub returns : goal.returns
returns c = open_short _ _ c.requires (sym c.is_outside.ensures ∙ c.if-is_outside.false) (sym c.is_stores_short.ensures ∙ c.if-not-is_stores_short.false)

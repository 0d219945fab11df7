-- `table::refusing::check_clear` meets its contract. Assumes nothing.
use Rattle.table.proofs.Prelude.{sym, ◌∙◌}
use Rattle.table.proofs.RefusingSteps.{clear_outside, clear_short, clear_early, clear_empty, clear_last}
use Rattle.table.proofs.refusing.check_clear.Goals as goal

pub returns-then-is_outside : goal.returns-then-is_outside
returns-then-is_outside c = clear_outside _ _ (sym c.is_outside.ensures ∙ c.if-is_outside.true)

pub is_pairs_short-requires : goal.is_pairs_short-requires
is_pairs_short-requires c = (sym c.is_outside.ensures ∙ c.if-is_outside.false)

pub returns-then-is_pairs_short : goal.returns-then-is_pairs_short
returns-then-is_pairs_short c = clear_short _ _ (sym c.is_outside.ensures ∙ c.if-is_outside.false) (sym c.is_pairs_short.ensures ∙ c.if-is_pairs_short.true)

pub returns-then-h-ne-LAST_GENERATION : goal.returns-then-h-ne-LAST_GENERATION
returns-then-h-ne-LAST_GENERATION c = clear_early _ _ (sym c.is_outside.ensures ∙ c.if-is_outside.false) (sym c.is_pairs_short.ensures ∙ c.if-is_pairs_short.false) c.if-h-ne-LAST_GENERATION.true

pub returns-then-h-eq0 : goal.returns-then-h-eq0
returns-then-h-eq0 c = clear_empty _ _ (sym c.is_outside.ensures ∙ c.if-is_outside.false) (sym c.is_pairs_short.ensures ∙ c.if-is_pairs_short.false) c.if-h-ne-LAST_GENERATION.false c.if-h-eq0.true

pub returns : goal.returns
returns c = clear_last _ _ (sym c.is_outside.ensures ∙ c.if-is_outside.false) (sym c.is_pairs_short.ensures ∙ c.if-is_pairs_short.false) c.if-h-ne-LAST_GENERATION.false c.if-h-eq0.false

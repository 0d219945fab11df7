-- `table::refusing::check_compact` meets its contract. Assumes nothing.
use Rattle.table.proofs.Prelude.{sym, ◌∙◌}
use Rattle.table.proofs.RefusingSteps.{compact_outside, compact_stores, compact_words, compact_last, compact_none}
use Rattle.table.proofs.refusing.check_compact.Goals as goal

pub returns-then-is_outside : goal.returns-then-is_outside
returns-then-is_outside c = compact_outside _ _ (sym c.is_outside.ensures ∙ c.if-is_outside.true)

pub is_stores_short-requires : goal.is_stores_short-requires
is_stores_short-requires c = (sym c.is_outside.ensures ∙ c.if-is_outside.false)

pub returns-then-is_stores_short : goal.returns-then-is_stores_short
returns-then-is_stores_short c = compact_stores _ _ (sym c.is_outside.ensures ∙ c.if-is_outside.false) (sym c.is_stores_short.ensures ∙ c.if-is_stores_short.true)

pub is_words_short-requires : goal.is_words_short-requires
is_words_short-requires c = (sym c.is_outside.ensures ∙ c.if-is_outside.false)

pub returns-then-is_words_short : goal.returns-then-is_words_short
returns-then-is_words_short c = compact_words _ _ (sym c.is_outside.ensures ∙ c.if-is_outside.false) (sym c.is_stores_short.ensures ∙ c.if-is_stores_short.false) (sym c.is_words_short.ensures ∙ c.if-is_words_short.true)

pub returns-then-h-eq-LAST_GENERATION : goal.returns-then-h-eq-LAST_GENERATION
returns-then-h-eq-LAST_GENERATION c =
    compact_last _ _ (sym c.is_outside.ensures ∙ c.if-is_outside.false) (sym c.is_stores_short.ensures ∙ c.if-is_stores_short.false) (sym c.is_words_short.ensures ∙ c.if-is_words_short.false) c.if-h-eq-LAST_GENERATION.true

pub returns : goal.returns
returns c =
    compact_none _ _ (sym c.is_outside.ensures ∙ c.if-is_outside.false) (sym c.is_stores_short.ensures ∙ c.if-is_stores_short.false) (sym c.is_words_short.ensures ∙ c.if-is_words_short.false) c.if-h-eq-LAST_GENERATION.false

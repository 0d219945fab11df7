-- `table::refusing::check_fast` meets its contract. Assumes nothing.
use Rattle.table.proofs.Prelude.{sym, ◌∙◌}
use Rattle.table.proofs.RefusingSteps.{fast_outside, fast_short, fast_unknown, fast_none}
use Rattle.table.proofs.refusing.check_fast.Goals as goal

pub returns-then-is_outside : goal.returns-then-is_outside
returns-then-is_outside c = fast_outside _ _ _ (sym c.is_outside.ensures ∙ c.if-is_outside.true)

pub is_pairs_short-requires : goal.is_pairs_short-requires
is_pairs_short-requires c = (sym c.is_outside.ensures ∙ c.if-is_outside.false)

pub returns-then-is_pairs_short : goal.returns-then-is_pairs_short
returns-then-is_pairs_short c = fast_short _ _ _ (sym c.is_outside.ensures ∙ c.if-is_outside.false) (sym c.is_pairs_short.ensures ∙ c.if-is_pairs_short.true)

pub returns-then-not-known : goal.returns-then-not-known
returns-then-not-known c = fast_unknown _ _ _ (sym c.is_outside.ensures ∙ c.if-is_outside.false) (sym c.is_pairs_short.ensures ∙ c.if-is_pairs_short.false) (sym c.known.ensures ∙ c.if-not-known.true)

pub returns : goal.returns
returns c = fast_none _ _ _ (sym c.is_outside.ensures ∙ c.if-is_outside.false) (sym c.is_pairs_short.ensures ∙ c.if-is_pairs_short.false) (sym c.known.ensures ∙ c.if-not-known.false)

-- `table::refusing::check_noted` meets its contract. Assumes nothing.
use Rattle.table.proofs.Prelude.{sym, ◌∙◌}
use Rattle.table.proofs.RefusingSteps.{noted_outside, noted_other, noted_above, noted_none}
use Rattle.table.proofs.refusing.check_noted.Goals as goal

pub returns-then-is_outside : goal.returns-then-is_outside
returns-then-is_outside c = noted_outside _ _ _ (sym c.is_outside.ensures ∙ c.if-is_outside.true)

pub returns-then-generation-h : goal.returns-then-generation-h
returns-then-generation-h c = noted_other _ _ _ (sym c.is_outside.ensures ∙ c.if-is_outside.false) c.if-generation-h.true

pub returns-then-h-count : goal.returns-then-h-count
returns-then-h-count c =
    noted_above _ _ _ (sym c.is_outside.ensures ∙ c.if-is_outside.false)
    c.if-generation-h.false c.if-h-count.true

pub returns : goal.returns
returns c =
    noted_none _ _ _ (sym c.is_outside.ensures ∙ c.if-is_outside.false)
    c.if-generation-h.false c.if-h-count.false

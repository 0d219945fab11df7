-- `table::refusing::is_outside` meets its contract. Assumes nothing.
use Rattle.table.proofs.Prelude.{sym, ◌∙◌, arith}
use Rattle.table.proofs.RefusingSteps.{outside_some, outside_unopenable, outside_last}
use Rattle.table.proofs.refusing.is_outside.Goals as goal

pub returns-then-not-is_openable : goal.returns-then-not-is_openable
returns-then-not-is_openable c = outside_unopenable _ (sym c.is_openable.ensures ∙ c.if-not-is_openable.true)

pub returns-then-h : goal.returns-then-h
returns-then-h c = outside_some _ (λ i. omega (arith, i.rows_fit, c.if-h.true))

pub returns-then-h-2 : goal.returns-then-h-2
returns-then-h-2 c = outside_some _ (λ i. omega (arith, i.dead_fit, c.if-h-2.true))

pub returns : goal.returns
returns c = outside_last _ (sym c.is_openable.ensures ∙ c.if-not-is_openable.false) c.if-h.false c.if-h-2.false

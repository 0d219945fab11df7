-- `table::refusing::is_openable` meets its contract. Assumes nothing.
use native.Mathlib.Omega.{arith}
use Rattle.table.proofs.Prelude.{sym, ◌∙◌}
use Rattle.table.proofs.RefusingSteps.{unopenable, unkept, openable_last}
use Rattle.table.proofs.refusing.is_openable.Goals as goal

pub returns-then-not-keeps_bounds : goal.returns-then-not-keeps_bounds
returns-then-not-keeps_bounds c = unkept _ (sym c.keeps_bounds.ensures ∙ c.if-not-keeps_bounds.true)

pub returns-then-h-lt1 : goal.returns-then-h-lt1
returns-then-h-lt1 c = unopenable _ (λ b. omega (arith, b, c.if-h-lt1.true))

pub returns : goal.returns
returns c = openable_last _ (sym c.keeps_bounds.ensures ∙ c.if-not-keeps_bounds.false) c.if-h-lt1.false

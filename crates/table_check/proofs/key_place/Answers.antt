-- `table_check::key_place` meets its contract. Assumes nothing.
use borrow.Author.Tests.{eq-eqb, ne_eqb}
use Rattle.table_check.specs.inner.Checks.{key_place}
use Rattle.table_check.proofs.key_place.Goals as goal

pub returns-then-kind-eq-REMOVE_ROW : goal.returns-then-kind-eq-REMOVE_ROW
unfolding key_place
returns-then-kind-eq-REMOVE_ROW c = simp (eq-eqb _ _ c.if-kind-eq-REMOVE_ROW.true)

pub returns : goal.returns
unfolding key_place
returns c = simp (ne_eqb _ _ c.if-kind-eq-REMOVE_ROW.false)

-- `table_stage::check_record` meets its contract. Assumes nothing.
use Rattle.table_stage.proofs.Prelude.{sym, ◌∙◌, eq-eqb, ne_eqb}
use Rattle.refusals.specs.Refusals.{first_refusal}
use Rattle.table_stage.specs.inner.Staging.{record_refusal}
use Rattle.table_stage.proofs.check_record.Goals as goal

pub returns-then-is_pending_outside : goal.returns-then-is_pending_outside
unfolding record_refusal first_refusal
returns-then-is_pending_outside c = rw (sym c.is_pending_outside.ensures ∙ c.if-is_pending_outside.true)

pub returns-then-cells-width : goal.returns-then-cells-width
unfolding record_refusal first_refusal
returns-then-cells-width c = rw (sym c.is_pending_outside.ensures ∙ c.if-is_pending_outside.false, ne_eqb _ _ c.if-cells-width.true)

pub returns-then-gone : goal.returns-then-gone
unfolding record_refusal first_refusal
returns-then-gone c = rw (sym c.is_pending_outside.ensures ∙ c.if-is_pending_outside.false, eq-eqb _ _ c.if-cells-width.false, c.if-gone.true)

pub returns-then-is_overfull : goal.returns-then-is_overfull
unfolding record_refusal first_refusal
returns-then-is_overfull c = rw (sym c.is_pending_outside.ensures ∙ c.if-is_pending_outside.false, eq-eqb _ _ c.if-cells-width.false, c.if-gone.false, sym c.is_overfull.ensures ∙ c.if-is_overfull.true)

pub returns : goal.returns
unfolding record_refusal first_refusal
returns c = rw (sym c.is_pending_outside.ensures ∙ c.if-is_pending_outside.false, eq-eqb _ _ c.if-cells-width.false, c.if-gone.false, sym c.is_overfull.ensures ∙ c.if-is_overfull.false)

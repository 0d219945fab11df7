use Rattle.offsets.proofs.Prelude.{sym, ◌∙◌, arith}
use Rattle.offsets.proofs.Rising.{onward_begin, onward_more, onward_fall, onward_last}
use Rattle.offsets.proofs.rises_by_parts.Goals as goal

pub returns-then-ids-le-PART : goal.returns-then-ids-le-PART
returns-then-ids-le-PART c = c.rises_pairwise.ensures

pub loop-at-init : goal.loop-at-init
loop-at-init c = onward_begin _

pub returns-then-not-rises_pairwise : goal.returns-then-not-rises_pairwise
returns-then-not-rises_pairwise c = onward_fall _ _ _ c.loop-at.invariant _ c.rises_pairwise-in-loop-at.ensures c.if-not-rises_pairwise.true

pub loop-at-preserved : goal.loop-at-preserved
loop-at-preserved c = onward_more _ _ _ c.loop-at.invariant c.loop-at-test.true (sym c.rises_pairwise-in-loop-at.ensures ∙ c.if-not-rises_pairwise.false)

pub returns : goal.returns
returns c = c.rises_pairwise-2.ensures ∙ onward_last _ _ _ c.loop-at.invariant (omega (arith, c.loop-at-test.false))

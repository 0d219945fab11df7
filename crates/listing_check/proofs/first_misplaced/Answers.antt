use Rattle.listing_check.proofs.Prelude.{arith}
use Rattle.listing_check.proofs.Risen.{risen_more, risen_not, risen_end}
use Rattle.listing_check.proofs.first_misplaced.Goals as goal

pub loop-at-init : goal.loop-at-init
loop-at-init c = (omega arith, λ i p q. absurd (omega arith))

pub returns-then-given-at : goal.returns-then-given-at
returns-then-given-at c =
    let at = c.loop-at in
    risen_not c.args.given.now at.at at.invariant.1 at.invariant.0 c.loop-at-test.true (omega (arith, c.if-given-at.true))

pub loop-at-preserved : goal.loop-at-preserved
loop-at-preserved c = (omega arith, risen_more c.args.given.now _ c.loop-at.invariant.1 c.if-given-at.false)

pub returns : goal.returns
returns c = risen_end _ _ c.loop-at.invariant.1 c.loop-at-test.false

-- `listing_check::step` meets its contract. Assumes nothing.
use Rattle.listing_check.proofs.Prelude.{arith}
use Rattle.listing_check.proofs.Steps.{is_left, step_given, step_row, step_on, step_past}
use Rattle.listing_check.proofs.step.Goals as goal

pub returns-then-next-number : goal.returns-then-next-number
returns-then-next-number c = step_given c.given_at-next.ensures c.if-next-number.true c.finished.ensures

pub returns-then-there-meets : goal.returns-then-there-meets
returns-then-there-meets c = step_row c.given_at-next.ensures c.if-next-number.false c.if-there-meets.true c.finished-then-there-meets.ensures

pub overflow_add-n : goal.overflow_add-n
overflow_add-n c =
    let a = c.args in
    let next = c.given_at-next in
    omega (arith, is_left a.given.now a.at.place (omega (arith, next.ensures, c.if-there.true)))

pub returns-then-there : goal.returns-then-there
returns-then-there c = step_on c.given_at-next.ensures c.if-there-meets.false c.if-there.true

pub returns-else-there : goal.returns-else-there
returns-else-there c = step_past c.given_at-next.ensures c.if-there-meets.false c.if-there.false

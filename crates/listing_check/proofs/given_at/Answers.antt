-- `listing_check::given_at` meets its contract. Assumes nothing.
use Rattle.listing_check.proofs.Prelude.{sym, arith, List·getD-eq-default}
use Rattle.listing_check.proofs.Steps.{get_d_there}
use Rattle.listing_check.proofs.given_at.Goals as goal

pub overflow_cast-result : goal.overflow_cast-result
overflow_cast-result c = omega (arith, c.type_inv.given c.args.place)

pub returns-then-place-given : goal.returns-then-place-given
returns-then-place-given c = get_d_there c.args.given.now c.args.place 0 4294967296 c.if-place-given.true

pub returns : goal.returns
returns c = sym (List·getD-eq-default c.args.given.now 4294967296 c.if-place-given.false)

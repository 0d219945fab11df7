-- `listing_check::close` meets its contract. Assumes nothing.
use Rattle.listing_check.proofs.Prelude.{drop_of_length-le, drop-cons, rules}
use Rattle.listing_check.specs.inner.Scanning.{first_apart, unless_wrong, closed}
use Rattle.listing_check.proofs.close.Goals as goal

pub offset_bounds-given-place : goal.offset_bounds-given-place
unfolding closed unless_wrong first_apart
offset_bounds-given-place c = search rules

pub bounds-given-place : goal.bounds-given-place
unfolding closed unless_wrong first_apart
bounds-given-place c = search rules

pub returns-then-place-given : goal.returns-then-place-given
unfolding closed unless_wrong first_apart
returns-then-place-given c = rw (drop-cons c.args.given.now c.args.at.place 0 c.if-place-given.true)

pub returns : goal.returns
unfolding closed unless_wrong first_apart
returns c = rw (drop_of_length-le c.args.given.now c.if-place-given.false)

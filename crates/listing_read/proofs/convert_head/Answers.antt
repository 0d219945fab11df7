-- `listing_read::convert_head` meets its contract. Assumes nothing.
use Rattle.listing_read.proofs.Prelude.{arith, rules}
use Rattle.listing_spec.specs.Listings.{head_letter}
use Rattle.listing_read.specs.inner.Converting.{converted_head}
use Rattle.listing_read.proofs.convert_head.Goals as goal

pub slice_bounds-put_line-end : goal.slice_bounds-put_line-end
unfolding head_letter converted_head
slice_bounds-put_line-end c = search rules

pub put_line-requires : goal.put_line-requires
unfolding head_letter converted_head
put_line-requires c = let h = rw c.if-numbered.true at c.requires in omega (arith, h)

pub shape_of-output-then-numbered : goal.shape_of-output-then-numbered
unfolding head_letter converted_head
shape_of-output-then-numbered c = search rules

pub returns-then-numbered : goal.returns-then-numbered
unfolding head_letter converted_head
returns-then-numbered c = rw c.if-numbered.true c.put_line.ensures

pub slice_bounds-put_line-end-2 : goal.slice_bounds-put_line-end-2
unfolding head_letter converted_head
slice_bounds-put_line-end-2 c = search rules

pub put_line-requires-2 : goal.put_line-requires-2
unfolding head_letter converted_head
put_line-requires-2 c = let h = rw c.if-numbered.false at c.requires in omega (arith, h)

pub shape_of-output : goal.shape_of-output
unfolding head_letter converted_head
shape_of-output c = search rules

pub returns : goal.returns
unfolding head_letter converted_head
returns c = rw c.if-numbered.false c.put_line-2.ensures

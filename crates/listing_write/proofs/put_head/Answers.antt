-- `listing_write::put_head` meets its contract. Assumes nothing.
use Rattle.listing_spec.specs.Listings.{head_letter}
use Rattle.listing_write.specs.inner.Lines.{head_numbers, head_line}
use Rattle.listing_write.proofs.Prelude.{arith, rules}
use Rattle.listing_write.proofs.put_head.Goals as goal

pub slice_bounds-put_line-end : goal.slice_bounds-put_line-end
unfolding head_line head_letter head_numbers
slice_bounds-put_line-end c = search rules

pub put_line-requires : goal.put_line-requires
unfolding head_line head_letter head_numbers
put_line-requires c = let h = rw c.if-numbered.true at c.requires in omega (arith, h)

pub shape_of-text-then-numbered : goal.shape_of-text-then-numbered
unfolding head_line head_letter head_numbers
shape_of-text-then-numbered c = search rules

pub returns-then-numbered : goal.returns-then-numbered
unfolding head_line head_letter head_numbers
returns-then-numbered c = rw c.if-numbered.true c.put_line.ensures

pub slice_bounds-numbers-end : goal.slice_bounds-numbers-end
unfolding head_line head_letter head_numbers
slice_bounds-numbers-end c = search rules

pub slice_bounds-put_line-end-2 : goal.slice_bounds-put_line-end-2
unfolding head_line head_letter head_numbers
slice_bounds-put_line-end-2 c = search rules

pub put_line-requires-2 : goal.put_line-requires-2
unfolding head_line head_letter head_numbers
put_line-requires-2 c = let h = rw c.if-numbered.false at c.requires in omega (arith, h)

pub shape_of-text : goal.shape_of-text
unfolding head_line head_letter head_numbers
shape_of-text c = search rules

pub returns : goal.returns
unfolding head_line head_letter head_numbers
returns c = rw c.if-numbered.false c.put_line-2.ensures

use Rattle.listing_write.proofs.Prelude.{arith, rules}
use Rattle.listing_write.proofs.Steps.{putting_begin, place_next, putting_room, putting_again, putting_end}
use Rattle.listing_write.proofs.put_rows.Goals as goal

pub loop-number-init : goal.loop-number-init
loop-number-init c = putting_begin _ _ _ c.requires.columns_in_bounds

pub overflow_add-next : goal.overflow_add-next
overflow_add-next c = omega (arith, place_next c.loop-number.invariant.place c.loop-number-test.true)

pub offset_bounds-rows-at : goal.offset_bounds-rows-at
offset_bounds-rows-at c = omega (arith, place_next c.loop-number.invariant.place c.loop-number-test.true)

pub slice_bounds-put_row-count : goal.slice_bounds-put_row-count
slice_bounds-put_row-count c = omega (arith, place_next c.loop-number.invariant.place c.loop-number-test.true)

pub slice_bounds-put_row-start : goal.slice_bounds-put_row-start
slice_bounds-put_row-start c = omega (arith, place_next c.loop-number.invariant.place c.loop-number-test.true)

pub slice_bounds-put_row-end : goal.slice_bounds-put_row-end
slice_bounds-put_row-end c = omega (arith, place_next c.loop-number.invariant.place c.loop-number-test.true)

pub put_row-end-requires : goal.put_row-end-requires
put_row-end-requires c =
    putting_room c.loop-number.invariant c.loop-number-test.true c.requires.rows_in_bounds

pub loop-number-preserved : goal.loop-number-preserved
loop-number-preserved c = putting_again c.loop-number.invariant c.loop-number-test.true (search rules) c.put_row-end.ensures

pub shape_of-text : goal.shape_of-text
shape_of-text c = c.loop-number.invariant.same_length

pub returns : goal.returns
returns c = putting_end c.loop-number.invariant (search rules)

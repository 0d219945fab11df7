use Rattle.listing_write.proofs.Prelude.{arith, length-take, length-drop, rules}
use Rattle.listing_write.proofs.Steps.{place_next, measuring_begin, measuring_few, measuring_again, measuring_end}
use Rattle.listing_write.proofs.rows_length.Goals as goal

pub loop-number-init : goal.loop-number-init
loop-number-init c = measuring_begin _ c.requires.columns_in_bounds

pub overflow_add-next : goal.overflow_add-next
overflow_add-next c = omega (arith, place_next c.loop-number.invariant.place c.loop-number-test.true)

pub offset_bounds-rows-at : goal.offset_bounds-rows-at
offset_bounds-rows-at c = omega (arith, place_next c.loop-number.invariant.place c.loop-number-test.true)

pub slice_bounds-row_length-count : goal.slice_bounds-row_length-count
slice_bounds-row_length-count c = omega (arith, place_next c.loop-number.invariant.place c.loop-number-test.true)

pub slice_bounds-row_length-start : goal.slice_bounds-row_length-start
slice_bounds-row_length-start c = omega (arith, place_next c.loop-number.invariant.place c.loop-number-test.true)

pub slice_bounds-row_length-end : goal.slice_bounds-row_length-end
slice_bounds-row_length-end c = omega (arith, place_next c.loop-number.invariant.place c.loop-number-test.true)

pub row_length-total-requires : goal.row_length-total-requires
row_length-total-requires c = simp (length-take, length-drop) (omega (arith, c.requires.columns_bound))

pub overflow_add-total : goal.overflow_add-total
overflow_add-total c =
    let pre = c.requires in
    omega (arith, measuring_few c.loop-number.invariant c.loop-number-test.true c.row_length-total.ensures pre.columns_bound, pre.count_bound)

pub loop-number-preserved : goal.loop-number-preserved
loop-number-preserved c = measuring_again c.loop-number.invariant c.loop-number-test.true c.row_length-total.ensures

pub returns : goal.returns
returns c = measuring_end c.loop-number.invariant (search rules)

use Rattle.listing_read.proofs.Prelude.{arith, row_few, valid_rows_line}
use Rattle.listing_read.proofs.Writing.{writing_begin, writing_fits, writing_part, writing_reread, writing_end}
use Rattle.listing_read.proofs.write_rows.Goals as goal

pub loop-at-init : goal.loop-at-init
loop-at-init c = let p = c.requires in (writing_begin _ _ _ _ _ p.start_in_bounds p.valid_rows p.start_in_bounds_2, c.row_width-width.ensures)

pub slice_bounds-reread_line-count : goal.slice_bounds-reread_line-count
slice_bounds-reread_line-count c = omega (arith, writing_fits _ _ _ _ _ c.loop-at.invariant.0 c.loop-at.invariant.1 c.loop-at-test.true)

pub slice_bounds-reread_line-start : goal.slice_bounds-reread_line-start
slice_bounds-reread_line-start c = omega (arith, writing_fits _ _ _ _ _ c.loop-at.invariant.0 c.loop-at.invariant.1 c.loop-at-test.true)

pub reread_line-at-requires : goal.reread_line-at-requires
reread_line-at-requires c =
    let v = c.loop-at.invariant.0 in
    let e = c.loop-at.invariant.1 in
    let before = c.loop-at-test.true in
    record { start_in_bounds = before; text_value = rw e (valid_rows_line _ _ _ _ before v.valid_rows); width_bound = row_few _ _ _ e c.requires.columns_bound; width_in_bounds = writing_part _ _ _ _ _ v e before }

pub overflow_add-used : goal.overflow_add-used
overflow_add-used c = omega (arith, writing_fits _ _ _ _ _ c.loop-at.invariant.0 c.loop-at.invariant.1 c.loop-at-test.true)

pub loop-at-smaller : goal.loop-at-smaller
loop-at-smaller c = let f = c.reread_line-at.ensures.found in omega (arith, f.forward, f.inside)

pub loop-at-preserved : goal.loop-at-preserved
loop-at-preserved c = (writing_reread _ _ _ _ _ c.loop-at.invariant.0 c.loop-at.invariant.1 c.reread_line-at.ensures, c.loop-at.invariant.1)

pub shape_of-output : goal.shape_of-output
shape_of-output c = c.loop-at.invariant.0.same

pub returns : goal.returns
returns c = writing_end _ _ _ _ _ c.loop-at.invariant.0 c.loop-at-test.false

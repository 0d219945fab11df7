use Rattle.listing_read.proofs.Prelude.{arith, rules, row_few, valid_rows_line}
use Rattle.listing_read.proofs.Converting.{converting_begin, converting_wide, converting_room, converting_number, converting_more, converting_end}
use Rattle.listing_read.proofs.convert_rows.Goals as goal

pub loop-at-init : goal.loop-at-init
loop-at-init c = (converting_begin _ _ _ _ _ _ _ c.requires.start_in_bounds c.requires.valid_rows c.requires.start_in_bounds_2, c.row_width-width.ensures)

pub reread_line-at-requires : goal.reread_line-at-requires
reread_line-at-requires c =
    let v = c.loop-at.invariant.0 in
    let e = c.loop-at.invariant.1 in
    let before = c.loop-at-test.true in
    let few = row_few _ _ _ e c.requires.columns_bound in
    record { start_in_bounds = before; text_value = rw e (valid_rows_line _ _ _ _ before v.valid_rows); width_bound = few; width_in_bounds = omega (arith, few, v.same_numbers, c.requires.in_bounds) }

pub convert_row-end-requires : goal.convert_row-end-requires
convert_row-end-requires c =
    let v = c.loop-at.invariant.0 in
    let e = c.loop-at.invariant.1 in
    let f = c.reread_line-at.ensures.found in
    record { columns_bound = c.requires.columns_bound; columns_in_bounds = converting_wide _ _ _ _ _ _ _ v e f; numbers_in_bounds = omega (arith, converting_room _ _ _ _ _ _ _ v e f) }

pub overflow_add-number : goal.overflow_add-number
overflow_add-number c =
    omega (arith, converting_number _ _ _ _ _ _ _ c.loop-at.invariant.0 c.loop-at.invariant.1 c.reread_line-at.ensures.found, c.requires.start_len_bound)

pub loop-at-smaller : goal.loop-at-smaller
loop-at-smaller c = let f = c.reread_line-at.ensures.found in omega (arith, f.forward, f.inside)

pub loop-at-preserved : goal.loop-at-preserved
loop-at-preserved c =
    (converting_more _ _ _ _ _ _ _ c.loop-at.invariant.0 c.loop-at.invariant.1 c.reread_line-at.ensures.found (search rules) (search rules) c.convert_row-end.ensures, c.loop-at.invariant.1)

pub shape_of-numbers : goal.shape_of-numbers
shape_of-numbers c = c.loop-at.invariant.0.same_numbers

pub shape_of-output : goal.shape_of-output
shape_of-output c = c.loop-at.invariant.0.same

pub returns : goal.returns
returns c = converting_end _ _ _ _ _ _ _ c.loop-at.invariant.0 c.loop-at-test.false

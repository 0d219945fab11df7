-- `listing_parse::row_at` meets its contract. Assumes nothing.
use Rattle.listing_parse.proofs.Prelude.{arith, length-take, rules}
use Rattle.listing_parse.proofs.Rows.{row_no_line, row_unfit, row_found, lead_below}
use Rattle.listing_parse.specs.Laws.Steps.{row_few}
use Rattle.listing_parse.proofs.row_at.Goals as goal

pub line_at-end-requires : goal.line_at-end-requires
line_at-end-requires c =
    let p = c.requires in
    let few = row_few _ _ _ c.row_width-width.ensures p.le_columns.1 in
    record { start_in_bounds = p.start_in_bounds; text_value = p.text_value; lt_letter = (omega arith, few); width_in_bounds = omega (arith, few, p.in_bounds) }

pub returns-then-end-eq0 : goal.returns-then-end-eq0
returns-then-end-eq0 c = row_no_line _ _ _ _ _ _ c.requires.start_in_bounds (rw c.row_width-width.ensures at c.line_at-end.ensures) c.if-end-eq0.true

pub slice_bounds-row_fits-end : goal.slice_bounds-row_fits-end
slice_bounds-row_fits-end c = (c.line_at-end.ensures.found (search rules)).wide

pub slice_bounds-row_fits-end-2 : goal.slice_bounds-row_fits-end-2
slice_bounds-row_fits-end-2 c = simp length-take (omega (arith, (c.line_at-end.ensures.found (search rules)).wide))

pub row_fits-requires : goal.row_fits-requires
row_fits-requires c = simp length-take (omega (arith, (c.line_at-end.ensures.found (search rules)).wide, lead_below _ _ _ c.row_width-width.ensures c.requires.le_columns.0))

pub returns-then-row_fits : goal.returns-then-row_fits
returns-then-row_fits c =
    row_found _ _ _ _ _ _ c.requires.start_in_bounds (rw c.row_width-width.ensures at (c.line_at-end.ensures.found (search rules))) c.requires.le_columns.0 (rw c.row_width-width.ensures at c.row_fits.ensures) c.if-row_fits.true

pub returns : goal.returns
returns c =
    row_unfit _ _ _ _ _ _ c.requires.start_in_bounds (rw c.row_width-width.ensures at (c.line_at-end.ensures.found (search rules))) (rw c.row_width-width.ensures at c.row_fits.ensures) c.if-row_fits.false

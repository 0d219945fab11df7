-- `listing_read::read_found` meets its contract. Assumes nothing.
use Rattle.listing_read.proofs.Prelude.{arith, row_few}
use Rattle.listing_read.proofs.Reading.{valid_rows, cells_count, read_short, read_done, cells_few}
use Rattle.listing_read.proofs.read_found.Goals as goal

pub overflow_mul-rows : goal.overflow_mul-rows
overflow_mul-rows c = omega (arith, cells_few c.args.s.rows c.row_width-width.result c.requires.few (row_few _ _ _ c.row_width-width.ensures c.requires.narrow.1))

pub returns-then-output-rows : goal.returns-then-output-rows
returns-then-output-rows c = read_short _ _ _ c.requires c.row_width-width.ensures _ c.if-output-rows.true

pub write_rows-requires : goal.write_rows-requires
write_rows-requires c = let l = c.requires in
    record { columns_bound = l.narrow.1; start_in_bounds = l.inside; valid_rows = valid_rows _ _ _ l; start_in_bounds_2 = omega (arith, cells_count _ _ _ l c.row_width-width.ensures, c.if-output-rows.false) }

pub returns : goal.returns
returns c = read_done _ _ _ c.requires c.row_width-width.ensures _ c.if-output-rows.false c.write_rows.ensures

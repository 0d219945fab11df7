-- `listing_check::row_at` meets its contract. Assumes nothing.
use Rattle.listing_check.proofs.Prelude.{arith}
use Rattle.listing_check.proofs.Rows.{row_due, row_read}
use Rattle.listing_check.proofs.row_at.Goals as goal

pub reread_line-next-requires : goal.reread_line-next-requires
reread_line-next-requires c =
    let due = c.requires in
    record {
      start_in_bounds = due.before;
      text_value = row_due due.before due.valid_rows;
      width_bound = omega (arith, due.narrow.1);
      width_in_bounds = omega (arith, due.narrow.1);
    }

pub returns : goal.returns
returns c =
    let due = c.requires in
    row_read due.valid_rows c.reread_line-next.ensures.found _ c.write_row.ensures

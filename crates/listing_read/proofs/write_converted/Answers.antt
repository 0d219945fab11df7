-- `listing_read::write_converted` meets its contract. Assumes nothing.
use Rattle.listing_read.proofs.Prelude.{arith, rules}
use Rattle.listing_read.proofs.Answers.{valid_rows, rows_few, head_room, rows_room, all_converted}
use Rattle.listing_read.proofs.write_converted.Goals as goal

pub convert_head-used-requires : goal.convert_head-used-requires
convert_head-used-requires c = head_room _ _ _ c.requires.listed c.args.output.now c.requires.text_in_bounds

pub overflow_cast-s : goal.overflow_cast-s
overflow_cast-s c = omega (arith, c.requires.listed.narrow.1)

pub convert_rows-requires : goal.convert_rows-requires
convert_rows-requires c =
    let l = c.requires.listed in
    record { columns_bound = l.narrow.1; start_in_bounds = l.inside; in_bounds = search rules; valid_rows = valid_rows _ _ _ l c.args.output.now; start_len_bound = rows_few _ _ _ l c.args.output.now; start_in_bounds_2 = rows_room _ _ _ l _ c.requires.text_in_bounds c.convert_head-used.ensures (search rules) }

pub returns : goal.returns
returns c =
    all_converted _ _ _ c.requires.listed _ c.requires.text_in_bounds c.convert_head-used.ensures c.convert_rows.ensures

-- `listing_read::convert_row` meets its contract. Assumes nothing.
use Rattle.listing_read.proofs.Prelude.{arith, length-take}
use Rattle.listing_read.proofs.Lengths.{row_back, row_forth, long_back, long_forth}
use Rattle.listing_read.proofs.convert_row.Goals as goal

pub slice_bounds-put_line-end : goal.slice_bounds-put_line-end
slice_bounds-put_line-end c = long_back c.args.columns c.if-numbered.true c.requires.columns_in_bounds

pub put_line-requires : goal.put_line-requires
put_line-requires c =
    rw (row_back c.args.columns c.args.number c.args.numbers.now) (rw c.if-numbered.true at c.requires.numbers_in_bounds)

pub returns-then-numbered : goal.returns-then-numbered
returns-then-numbered c =
    rw (c.if-numbered.true, ← row_back c.args.columns c.args.number c.args.numbers.now) c.put_line.ensures

pub slice_bounds-put_numbered-end : goal.slice_bounds-put_numbered-end
slice_bounds-put_numbered-end c =
    simp length-take (omega (arith, long_forth c.args.columns c.if-numbered.false c.requires.columns_in_bounds))

pub put_numbered-requires : goal.put_numbered-requires
put_numbered-requires c =
    rw (row_forth c.args.columns c.args.number c.args.numbers.now) (rw c.if-numbered.false at c.requires.numbers_in_bounds)

pub returns : goal.returns
returns c =
    rw (c.if-numbered.false, ← row_forth c.args.columns c.args.number c.args.numbers.now) c.put_numbered.ensures

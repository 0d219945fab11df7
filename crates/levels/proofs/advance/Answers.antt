-- `levels::advance` meets its contract. Assumes nothing.
use Rattle.levels.proofs.Prelude.{refl, arith, found, more, ended, nothing_left}
use Rattle.levels.proofs.advance.Goals as goal

pub returns-then-taken : goal.returns-then-taken
returns-then-taken c = found _ c.take_line-taken.ensures c.if-taken.true c.ready.ensures refl

pub read_on-requires : goal.read_on-requires
read_on-requires c =
    record {
      used_bound = c.requires.used_bound;
      end_le_next = c.take_line-taken.ensures.all_taken c.if-taken.false;
      reads_nonzero = (c.is_at_end.ensures.goes_on c.if-not-is_at_end.true).1;
    }

pub returns-then-not-is_at_end : goal.returns-then-not-is_at_end
returns-then-not-is_at_end c = more _ c.take_line-taken.ensures c.if-taken.false (c.is_at_end.ensures.goes_on c.if-not-is_at_end.true) c.read_on.ensures

pub returns-then-kept-gt0 : goal.returns-then-kept-gt0
returns-then-kept-gt0 c =
    ended _ c.take_line-taken.ensures c.if-taken.false (c.is_at_end.ensures.ended c.if-not-is_at_end.false) (omega (arith, c.if-kept-gt0.true)) c.ready-then-kept-gt0.ensures refl

pub returns : goal.returns
returns c =
    nothing_left _ c.take_line-taken.ensures c.if-taken.false (c.is_at_end.ensures.ended c.if-not-is_at_end.false) (omega (arith, c.if-kept-gt0.false))
    (record {
      same_input = refl;
      no_length = refl;
      none_handed = c.no_write.ensures.count_value;
      written = c.no_write.ensures.is_written_value;
      no_line = refl;
      is_over = refl;
    })
    refl

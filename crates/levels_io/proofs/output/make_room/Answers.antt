-- `levels_io::output::make_room` meets its contract. Assumes nothing.
use Rattle.levels_io.proofs.Prelude.{inl, inr, arith}
use Rattle.levels_io.proofs.output.make_room.Goals as goal

pub returns-then-text-used : goal.returns-then-text-used
returns-then-text-used c = inl c.flush.ensures

pub returns : goal.returns
returns c = inr (c.no_write.ensures.count_value, c.no_write.ensures.is_written_value, omega (arith, c.if-text-used.false, c.requires))

-- `levels_io::input::first_read` meets its contract. Assumes nothing.
use Rattle.levels_io.proofs.Prelude.{refl, pos, refilled_first}
use Rattle.levels_io.proofs.input.first_read.Goals as goal

pub returns : goal.returns
returns c = refilled_first c.args.chunk.now (record { next = 0; end = 0; got = pos 0; reads = 18446744073709551615 }) refl c.refill.ensures

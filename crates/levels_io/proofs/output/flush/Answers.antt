-- `levels_io::output::flush` meets its contract. Assumes nothing.
use Rattle.levels_io.proofs.Prelude.{arith, length-take}
use Rattle.levels_io.proofs.output.flush.Goals as goal

pub slice_bounds-write_bytes-end : goal.slice_bounds-write_bytes-end
slice_bounds-write_bytes-end c = simp length-take (omega (arith, c.requires))

pub returns : goal.returns
returns c = let counted = simp length-take at c.write_bytes.ensures in omega (arith, counted, c.requires)

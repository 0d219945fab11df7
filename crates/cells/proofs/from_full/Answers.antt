-- `cells::from_full` meets its contract. Assumes nothing.
use Rattle.cells.proofs.Prelude.{arith}
use Rattle.cells.proofs.Bits.{compact_law}
use Rattle.cells.proofs.from_full.Goals as goal

pub overflow_cast-result-2 : goal.overflow_cast-result-2
overflow_cast-result-2 c = omega (arith, compact_law c.args.full c.ranges.full.fits)

pub returns : goal.returns
returns c = compact_law c.args.full c.ranges.full.fits

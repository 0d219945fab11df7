-- `cells::probe` meets its contract. Assumes nothing.
use Rattle.cells.proofs.Bits.{probe_law}
use Rattle.cells.proofs.probe.Goals as goal

pub returns : goal.returns
returns c = probe_law c.args.hash c.ranges.hash.fits

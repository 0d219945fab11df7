-- `test_probes::mouldgrey_find` meets its contract. Assumes nothing.
use Rattle.test_probes.proofs.Prelude.{arith}
use Rattle.test_probes.proofs.mouldgrey_find.Goals as goal

pub look_up-requires : goal.look_up-requires
look_up-requires c = let z = c.fits.ensures c.if-not-fits.false in omega arith

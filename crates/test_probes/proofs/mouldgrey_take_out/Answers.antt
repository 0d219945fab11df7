-- `test_probes::mouldgrey_take_out` meets its contract. Assumes nothing.
use Rattle.test_probes.proofs.Prelude.{arith}
use Rattle.test_probes.proofs.mouldgrey_take_out.Goals as goal

pub overflow_mul-room : goal.overflow_mul-room
overflow_mul-room c = let z = c.fits.ensures c.if-not-fits.false in record { fits = omega arith }

pub remove_row-requires : goal.remove_row-requires
remove_row-requires c = let z = c.fits.ensures c.if-not-fits.false in omega arith

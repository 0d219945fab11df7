-- `test_probes::fits` meets its contract. Assumes nothing.
use Rattle.test_probes.proofs.Prelude.{ℕ, ◌*◌, ◌≤◌, mul-le-mul, arith}
use Rattle.test_probes.proofs.fits.Goals as goal

-- a table has few cells
cells_few : (room columns : ℕ) → room ≤ 65536 → columns ≤ 8 → room * columns ≤ 524288
cells_few room columns p q = mul-le-mul p q

pub overflow_mul-t : goal.overflow_mul-t
overflow_mul-t c =
    let a = c.args.t in
    let s = cells_few a.room a.columns c.if-t-gt-MOST_ROWS.false c.if-t-gt8.false in
    record { fits = omega arith }

pub overflow_cast-t : goal.overflow_cast-t
overflow_cast-t c =
    let a = c.args.t in
    let s = cells_few a.room a.columns c.if-t-gt-MOST_ROWS.false c.if-t-gt8.false in
    record { fits = omega arith }

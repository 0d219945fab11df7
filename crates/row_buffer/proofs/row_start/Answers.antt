-- `row_buffer::row_start` meets its contract. Assumes nothing.
use native.Mathlib.Nat.{mul-le-mul}
use Rattle.row_buffer.proofs.Prelude.{refl, arith}
use Rattle.row_buffer.proofs.row_start.Goals as goal

pub overflow_mul-result : goal.overflow_mul-result
overflow_mul-result c = record { fits = omega (arith, mul-le-mul c.ranges.row.fits c.ranges.columns.fits) }

pub returns : goal.returns
returns c = refl

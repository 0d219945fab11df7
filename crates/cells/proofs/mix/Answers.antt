-- `cells::mix` meets its contract. Assumes nothing.
use Rattle.cells.proofs.Prelude.{ℕ, ◌+◌, ◌*◌, ◌/◌, ◌%◌, ◌^◌, ◌<◌, refl, arith}
use Rattle.cells.specs.Cells.{mixed}
use Rattle.cells.proofs.Hash.{product_fits}
use Rattle.cells.proofs.mix.Goals as goal

-- a sum times itself with its halves exchanged fits
fits : (hash cell : ℕ) → let sum = (hash + cell + 2654435761) % 2 ^ 32 in sum * (sum % 2 ^ 16 * 2 ^ 16 + sum / 2 ^ 16) < 2 ^ 64
fits hash cell = product_fits _ _ (omega arith) (omega arith)

pub overflow_mul-product : goal.overflow_mul-product
overflow_mul-product c = record { fits = fits c.args.hash c.args.cell }

pub overflow_add-result : goal.overflow_add-result
overflow_add-result c = omega (arith, fits c.args.hash c.args.cell)

pub returns : goal.returns
unfolding mixed
returns c = refl

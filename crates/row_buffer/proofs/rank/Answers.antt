-- `row_buffer::rank` meets its contract. Assumes nothing.
use Rattle.row_buffer.proofs.Prelude.{ℕ, ◌+◌, ap, arith, set_below_le}
use Rattle.row_buffer.proofs.Laws.{shl_pos, counted}
use Rattle.row_buffer.proofs.rank.Goals as goal

pub overflow_sub-below : goal.overflow_sub-below
overflow_sub-below c = shl_pos _ c.requires.0

pub overflow_add-result : goal.overflow_add-result
overflow_add-result c = omega (arith, counted c.args.live c.args.bit c.requires.0, set_below_le c.args.live c.args.bit)

pub returns : goal.returns
returns c = ap (λ (n : ℕ). c.args.base + n) (counted c.args.live c.args.bit c.requires.0)

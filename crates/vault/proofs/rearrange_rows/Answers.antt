use Rattle.vault.proofs.Prelude.{arith}
use Rattle.vault.proofs.Filling.{filled_none, filled_rows, rows_end, still_shaped}
use Rattle.vault.proofs.rearrange_rows.Goals as goal

pub loop-start-init : goal.loop-start-init
loop-start-init g c = (omega arith, filled_none)

pub block_end-end-requires : goal.block_end-end-requires
block_end-end-requires g c = c.loop-start-test.true

pub rearrange_block-requires : goal.rearrange_block-requires
rearrange_block-requires g c = let e = c.block_end-end.ensures in (still_shaped c.loop-start.invariant.1 c.requires, record { forward = omega (arith, e.0); inside = e.1 }, λ row column h k. c.loop-start.invariant.1.filled row column (omega arith) h (omega arith) k)

pub loop-start-smaller : goal.loop-start-smaller
loop-start-smaller g c = omega (arith, c.block_end-end.ensures.0, c.loop-start-test.true)

pub loop-start-preserved : goal.loop-start-preserved
loop-start-preserved g c = (c.block_end-end.ensures.1, filled_rows c.loop-start.invariant.1 c.rearrange_block.ensures)

pub shape_of-output : goal.shape_of-output
shape_of-output g c = c.loop-start.invariant.1.same

pub returns : goal.returns
returns g c = rows_end c.loop-start.invariant.1 c.loop-start.invariant.0 c.loop-start-test.false

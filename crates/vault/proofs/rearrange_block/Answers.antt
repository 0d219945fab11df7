use Rattle.vault.proofs.Prelude.{arith}
use Rattle.vault.proofs.Filling.{filled_nothing, filled_columns, columns_end, still_shaped}
use Rattle.vault.proofs.rearrange_block.Goals as goal

pub loop-column-init : goal.loop-column-init
loop-column-init g c = (omega arith, filled_nothing)

pub rearrange_column-requires : goal.rearrange_column-requires
rearrange_column-requires g c = let p = c.requires in (still_shaped c.loop-column.invariant.1 p.0, p.1, c.loop-column-test.true, λ row column h k. c.loop-column.invariant.1.kept _ (p.2 row column h k))

pub loop-column-preserved : goal.loop-column-preserved
loop-column-preserved g c = (omega (arith, c.loop-column-test.true), filled_columns c.loop-column.invariant.1 c.rearrange_column.ensures)

pub shape_of-output : goal.shape_of-output
shape_of-output g c = c.loop-column.invariant.1.same

pub returns : goal.returns
returns g c = columns_end c.loop-column.invariant.1 c.loop-column.invariant.0 c.loop-column-test.false

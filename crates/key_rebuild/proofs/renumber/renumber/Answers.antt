use Rattle.key_rebuild.proofs.Prelude.{arith}
use Rattle.key_rebuild.proofs.RenumberSteps.{pass_begin, pass_block, pass_step, pass_end}
use Rattle.key_rebuild.proofs.renumber.renumber.Goals as goal

pub loop-at-init : goal.loop-at-init
loop-at-init c = pass_begin _ _ _ _

pub overflow_sub-n : goal.overflow_sub-n
overflow_sub-n c = omega (arith, c.loop-at-test.true)

pub renumber_block-requires : goal.renumber_block-requires
renumber_block-requires c =
    let p = c.requires in (p.0, pass_block _ _ _ _ _ _ c.loop-at.invariant _ c.block-count.ensures p.1 (omega (arith, p.0.room)))

pub overflow_add-at : goal.overflow_add-at
overflow_add-at c = omega (arith, c.block-count.ensures, c.loop-at-test.true)

pub loop-at-smaller : goal.loop-at-smaller
loop-at-smaller c = omega (arith, c.block-count.ensures, c.loop-at-test.true)

pub loop-at-preserved : goal.loop-at-preserved
loop-at-preserved c = pass_step _ _ _ _ _ _ c.loop-at.invariant _ _ c.block-count.ensures c.renumber_block.ensures

pub shape_of-store : goal.shape_of-store
shape_of-store c = c.loop-at.invariant.same

pub returns : goal.returns
returns c = pass_end _ _ _ _ _ _ c.loop-at.invariant c.loop-at-test.false

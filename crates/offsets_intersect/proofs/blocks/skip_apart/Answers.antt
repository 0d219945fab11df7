use Rattle.offsets_intersect.proofs.Prelude.{refl, arith}
use Rattle.offsets_intersect.proofs.Passing.{passed_none, passed_on, apart_turned, passed_turned, pass_block}
use Rattle.offsets_intersect.proofs.blocks.skip_apart.Goals as goal

pub loop-i-init : goal.loop-i-init
loop-i-init c = (passed_none c.requires.2 c.requires.3, c.requires.0.up, c.requires.1.up)

pub bounds-ids-i : goal.bounds-ids-i
bounds-ids-i c = omega (arith, (c.are_blocks_apart.ensures c.loop-i-test.true).room)

pub bounds-others-o : goal.bounds-others-o
bounds-others-o c = omega (arith, (c.are_blocks_apart.ensures c.loop-i-test.true).others_room)

-- the block of the ids, and that of the others
pub loop-i-smaller-then-ids-i : goal.loop-i-smaller-then-ids-i
loop-i-smaller-then-ids-i c = omega (arith, (c.are_blocks_apart.ensures c.loop-i-test.true).room)

pub loop-i-preserved-then-ids-i : goal.loop-i-preserved-then-ids-i
loop-i-preserved-then-ids-i c =
    let inv = c.loop-i.invariant in
    let apart = c.are_blocks_apart.ensures c.loop-i-test.true in
    (passed_on inv.0 (pass_block inv.1 inv.2 apart (omega arith) (omega (arith, c.if-ids-i.true))), inv.1, inv.2)

pub loop-i-smaller : goal.loop-i-smaller
loop-i-smaller c = omega (arith, (c.are_blocks_apart.ensures c.loop-i-test.true).others_room)

pub loop-i-preserved : goal.loop-i-preserved
loop-i-preserved c =
    let inv = c.loop-i.invariant in
    let apart = c.are_blocks_apart.ensures c.loop-i-test.true in
    (passed_on inv.0 (passed_turned inv.1 inv.2 (pass_block inv.2 inv.1 (apart_turned apart) (omega arith) c.if-ids-i.false)), inv.1, inv.2)

pub returns : goal.returns
returns c = (c.loop-i.invariant.0, refl)

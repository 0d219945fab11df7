use Rattle.key_rebuild.proofs.Prelude.{refl, ◌∙◌, arith, fits_stores}
use Rattle.key_rebuild.proofs.RebuildSteps.{turn_begin, turn_on, turn_end}
use Rattle.key_rebuild.proofs.rebuild.Goals as goal

pub loop-row-init : goal.loop-row-init
loop-row-init c = turn_begin _ _ _ _ c.empty.ensures c.requires.long

pub put_row-requires : goal.put_row-requires
put_row-requires c =
    let f = c.requires in
    (fits_stores f _ _ refl (c.loop-row.invariant.same ∙ c.empty.auto.store), omega (arith, c.loop-row-test.true))

pub loop-row-preserved : goal.loop-row-preserved
loop-row-preserved c =
    let l = c.loop-row in
    turn_on _ _ _ _ _ l.row l.invariant (omega (arith, c.loop-row-test.true)) c.put_row.auto.store c.put_row.ensures

pub returns : goal.returns
returns c = let l = c.loop-row in turn_end _ _ _ _ c.empty.ensures _ l.row l.invariant (omega (arith, c.loop-row-test.false))

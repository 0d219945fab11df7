use Rattle.key_rebuild.proofs.Prelude.{◌∙◌, arith}
use Rattle.key_rebuild.proofs.UniqueSteps.{other_store, unique_begin, unique_on, unique_repeat, unique_end}
use Rattle.key_rebuild.proofs.build_unique.Goals as goal

pub empty-requires : goal.empty-requires
empty-requires c = c.requires.slots_fit

pub loop-row-init : goal.loop-row-init
loop-row-init c = unique_begin _ _ _ _ c.requires.slots_fit.long c.empty.ensures

pub put_new_row-requires : goal.put_new_row-requires
put_new_row-requires c =
    (other_store _ _ _ c.requires _ (c.loop-row.invariant.same ∙ c.empty.auto.store), omega (arith, c.loop-row-test.true))

pub returns-then-not-put_new_row : goal.returns-then-not-put_new_row
returns-then-not-put_new_row c = let l = c.loop-row in unique_repeat _ _ _ _ l.row l.invariant _ _ c.put_new_row.ensures c.if-not-put_new_row.true

pub loop-row-preserved : goal.loop-row-preserved
loop-row-preserved c =
    let l = c.loop-row in
    unique_on _ _ _ _ l.row l.invariant _ _ (omega (arith, c.loop-row-test.true)) c.put_new_row.auto.store c.put_new_row.ensures c.if-not-put_new_row.false

pub returns : goal.returns
returns c = let l = c.loop-row in unique_end _ _ _ _ l.row l.invariant (omega (arith, c.loop-row-test.false))

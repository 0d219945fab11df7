use Rattle.key_rebuild.proofs.Prelude.{refl, arith}
use Rattle.key_rebuild.proofs.RenumberSteps.{half_begin, half_free, half_taken, half_fits, half_end}
use Rattle.key_rebuild.proofs.renumber.half_bits.Goals.{then-slot-ne0, else-slot-ne0}
use Rattle.key_rebuild.proofs.renumber.half_bits.Goals as goal

pub loop-place-init : goal.loop-place-init
loop-place-init c = half_begin _ _

pub overflow_add-word : goal.overflow_add-word
overflow_add-word c = omega (arith, half_fits _ _ _ _ c.loop-place.invariant c.loop-place-test.true c.if-slot-ne0.true _ refl)

pub loop-place-preserved : goal.loop-place-preserved
loop-place-preserved c =
    let l = c.loop-place in
    elim c.if-slot-ne0.branch [
      | then-slot-ne0 w ↦ rw w.word-is (half_taken _ _ _ _ l.invariant c.loop-place-test.true w.if-slot-ne0.true _ refl)
      | else-slot-ne0 w ↦ rw w.word-is (half_free _ _ _ _ l.invariant c.loop-place-test.true w.if-slot-ne0.false)
    ]

pub returns : goal.returns
returns c = half_end _ _ _ _ c.loop-place.invariant c.loop-place-test.false

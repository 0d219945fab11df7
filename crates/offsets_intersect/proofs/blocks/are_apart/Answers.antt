use Rattle.offsets_intersect.proofs.Prelude.{arith}
use Rattle.offsets_intersect.proofs.Passing.{apart_more}
use Rattle.offsets_intersect.proofs.blocks.are_apart.Goals as goal

pub loop-id-init : goal.loop-id-init
loop-id-init c = λ e. record { each = λ j h. absurd (omega arith) }

pub loop-id-preserved : goal.loop-id-preserved
loop-id-preserved c = apart_more _ _ _ _ _ c.loop-id.invariant c.is_none_of-apart.ensures

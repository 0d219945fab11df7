-- `offsets_intersect::intersect_list_range` meets its contract. Assumes nothing.
use Rattle.offsets_intersect.proofs.Prelude.{arith, answered_list}
use Rattle.offsets_intersect.proofs.Answers.{wrote_few}
use Rattle.offsets_intersect.proofs.intersect_list_range.Goals as goal

pub overflow_cast-result : goal.overflow_cast-result
overflow_cast-result c = omega (arith, wrote_few _ _ _ _ _ c.keep_within-n.ensures, c.requires.0.short)

pub returns : goal.returns
returns c = answered_list _ _ _ _ c.keep_within-n.ensures

-- `offsets_intersect::intersect_range_list` meets its contract. Assumes nothing.
use Rattle.offsets_intersect.proofs.Prelude.{arith}
use Rattle.offsets_intersect.proofs.Answers.{answered_none, answered_some, wrote_few}
use Rattle.offsets_intersect.proofs.intersect_range_list.Goals as goal

pub returns-then-n-eq0 : goal.returns-then-n-eq0
returns-then-n-eq0 c = answered_none _ _ _ _ c.keep_within-n.ensures c.if-n-eq0.true

pub overflow_cast-result : goal.overflow_cast-result
overflow_cast-result c = omega (arith, wrote_few _ _ _ _ _ c.keep_within-n.ensures, c.requires.0.short)

pub returns : goal.returns
returns c = answered_some _ _ _ _ c.keep_within-n.ensures c.if-n-eq0.false

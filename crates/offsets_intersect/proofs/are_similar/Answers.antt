-- `offsets_intersect::are_similar` meets its contract. Assumes nothing.
use Rattle.offsets_intersect.proofs.Similar.{similar_both, similar_upper, similar_not}
use Rattle.offsets_intersect.proofs.are_similar.Goals as goal

pub returns-then-b-le-FEW_IDS : goal.returns-then-b-le-FEW_IDS
returns-then-b-le-FEW_IDS c = let s = similar_both _ _ c.if-b-le-FEW_IDS.true.0 c.if-b-le-FEW_IDS.true.1 in cc

pub returns-then-a-b : goal.returns-then-a-b
returns-then-a-b c = similar_upper _ _ c.if-b-le-FEW_IDS.either c.if-a-b.true

pub returns-else-a-b : goal.returns-else-a-b
returns-else-a-b c = similar_not _ _ c.if-b-le-FEW_IDS.either c.if-a-b.false

-- `offsets_intersect::blocks::are_blocks_apart` meets its contract. Assumes nothing.
use Rattle.offsets_intersect.proofs.Prelude.{false≢true, arith}
use Rattle.offsets_intersect.proofs.Passing.{apart_parts}
use Rattle.offsets_intersect.proofs.blocks.are_blocks_apart.Goals as goal

pub returns-then-ids-i-lt-BLOCK : goal.returns-then-ids-i-lt-BLOCK
returns-then-ids-i-lt-BLOCK c = λ e. absurd (false≢true e)

pub returns-then-others-o-lt-BLOCK : goal.returns-then-others-o-lt-BLOCK
returns-then-others-o-lt-BLOCK c = λ e. absurd (false≢true e)

pub returns : goal.returns
returns c = λ e. apart_parts _ _ _ _ (omega arith) (omega arith) (c.are_apart.ensures e)

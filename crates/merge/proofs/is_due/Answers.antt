-- `merge::is_due` meets its contract. Assumes nothing.
use Rattle.merge.proofs.MergingSteps.{due_last, due_few, due_half}
use Rattle.merge.proofs.is_due.Goals as goal

pub returns-then-h-eq-LAST_GENERATION : goal.returns-then-h-eq-LAST_GENERATION
returns-then-h-eq-LAST_GENERATION c = due_last _ _ _ c.if-h-eq-LAST_GENERATION.true

pub returns-then-h-le-DEAD_ALLOWED : goal.returns-then-h-le-DEAD_ALLOWED
returns-then-h-le-DEAD_ALLOWED c = due_few _ _ _ c.if-h-le-DEAD_ALLOWED.true

pub returns : goal.returns
returns c = due_half _ _ _ c.if-h-eq-LAST_GENERATION.false c.if-h-le-DEAD_ALLOWED.false

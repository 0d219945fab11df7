-- `levels_answer::calls::merge_pending` meets its contract. Assumes nothing.
use Rattle.levels_answer.proofs.Prelude.{refl, merge_served}
use Rattle.levels_answer.proofs.calls.merge_pending.Goals as goal

pub returns : goal.returns
returns c = merge_served c.respond_merge.ensures refl refl c.merge-merged.ensures

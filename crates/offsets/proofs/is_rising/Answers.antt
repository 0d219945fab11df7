-- `offsets::is_rising` meets its contract. Assumes nothing.
use Rattle.offsets.proofs.Prelude.{◌∙◌, arith}
use Rattle.offsets.proofs.Rising.{onward_last}
use Rattle.offsets.proofs.is_rising.Goals as goal

pub returns : goal.returns
returns c = c.rises_by_parts.ensures ∙ onward_last _ _ _ c.past_small_steps-at.ensures (omega arith)

-- `offsets::rises_by_small_steps` meets its contract. Assumes nothing.
use Rattle.offsets.proofs.Rising.{Steps}
use Rattle.offsets.proofs.rises_by_small_steps.Given as goal

abbrev pub invariant-loop-i : goal.invariant-loop-i
invariant-loop-i l = Steps l.ids l.last l.rises l.i

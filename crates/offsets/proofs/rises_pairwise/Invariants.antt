-- `offsets::rises_pairwise` meets its contract. Assumes nothing.
use Rattle.offsets.proofs.Rising.{Tested}
use Rattle.offsets.proofs.rises_pairwise.Given as goal

abbrev pub invariant-loop-i : goal.invariant-loop-i
invariant-loop-i l = Tested l.ids l.rises l.i

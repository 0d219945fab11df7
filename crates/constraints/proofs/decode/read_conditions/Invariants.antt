-- `constraints::decode::read_conditions` meets its contract. The loop's invariant: the first i are read. Assumes nothing.
use Rattle.constraints.proofs.ReadSteps.{Reading}
use Rattle.constraints.proofs.decode.read_conditions.Given as goal

abbrev pub invariant-loop-i : goal.invariant-loop-i
invariant-loop-i l = Reading l.words l.count l.all l.i

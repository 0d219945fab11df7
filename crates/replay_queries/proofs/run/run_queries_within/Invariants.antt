-- `replay_queries::run::run_queries_within` meets its contract. The loop's invariant: the remaining queries lead to the result of all of them.
-- Assumes nothing.
use Rattle.replay_queries.proofs.RunSteps.{Going}
use Rattle.replay_queries.proofs.run.run_queries_within.Given as goal

abbrev pub invariant-loop-frame : goal.invariant-loop-frame
invariant-loop-frame l = Going l.h l.rows l.sorts l.ids l.queries l.initial.first l.initial.second l.initial.n l.first l.second l.n (l.frame-iterator.0).now

-- `replay_queries::run::subset_left` meets its contract. Assumes nothing.
use Rattle.offsets.specs.Laws.Subsets.{range_is, list_is}
use Rattle.replay_queries.proofs.run.subset_left.Goals as goal

pub returns-then-l : goal.returns-then-l
returns-then-l c = rw (range_is, c.if-l.true)

pub returns : goal.returns
returns c = rw (list_is, c.if-l.false)

-- `replay::make_calls` meets its contract. The loop's invariant: the requests still to come end where all of them do. Assumes
-- nothing.
use Rattle.table.specs.Outcomes.{stores, lengths, compaction_words}
use Rattle.replay.proofs.ReplaySteps.{Going}
use Rattle.replay.proofs.make_calls.Given as goal

abbrev pub invariant-loop-frame : goal.invariant-loop-frame
invariant-loop-frame l = Going l.calls (lengths l.initial.rows l.initial.keys l.initial.sorts l.initial.pending l.initial.live l.initial.base) (lengths l.rows l.keys l.sorts l.pending l.live l.base) (stores l.initial.n l.initial.rows l.initial.keys l.initial.sorts l.initial.pending) (compaction_words l.initial.live l.initial.base) l.initial.index (stores l.n l.rows l.keys l.sorts l.pending) (compaction_words l.live l.base) l.index (l.frame-iterator.0).now

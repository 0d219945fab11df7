-- `merge_insert::insert_all` meets its contract. The loop's invariant: the result of all inserts is that of the remaining records
-- from here. Assumes nothing.
use Rattle.merge_insert.proofs.Prelude.{◌-◌}
use Rattle.merge_insert.proofs.PassInserts.{Filling}
use Rattle.merge_insert.proofs.insert_all.Given as goal

abbrev pub invariant-loop-words : goal.invariant-loop-words
invariant-loop-words l = Filling l.h l.initial.rows l.initial.keys l.initial.sorts l.pending l.rows l.keys l.sorts l.done l.at

abbrev pub decreases-loop-words : goal.decreases-loop-words
decreases-loop-words l = l.h.pending - l.at

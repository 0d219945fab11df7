-- `refresh_index::mark_values` meets its contract. The loop's invariant: the rows that the store leads to from the values before this one
-- are marked, and a value in its slot of the recent values is one of those. Assumes nothing.
use Rattle.refresh_index.proofs.Prelude.{Noted}
use Rattle.refresh_index.proofs.ValueSteps.{Listing}
use Rattle.refresh_index.proofs.mark_values.Given as goal

abbrev pub invariant-loop-value : goal.invariant-loop-value
invariant-loop-value l = record {
  noted : Noted l.values l.value-index l.recent;
  listing : Listing l.h l.rows l.index l.columns l.values l.value-index l.initial.words l.words l.marked;
}

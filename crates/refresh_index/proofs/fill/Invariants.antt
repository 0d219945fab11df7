-- `refresh_index::fill` meets its contract. The loop's invariant: the rows passed are pushed. Assumes nothing.
use Rattle.refresh_index.proofs.Prelude.{◌*◌, length, Pushed}
use Rattle.refresh_index.proofs.fill.Given as goal

abbrev pub invariant-loop-row : goal.invariant-loop-row
invariant-loop-row l = Pushed l.h l.rows l.columns l.buckets (l.from * length l.columns) l.initial.index (l.row * length l.columns) l.index

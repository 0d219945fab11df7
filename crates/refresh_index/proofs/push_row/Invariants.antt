-- `refresh_index::push_row` meets its contract. The loop's invariant: the entries of the places passed are pushed. Assumes nothing.
use Rattle.refresh_index.proofs.Prelude.{◌+◌, ◌*◌, length, Pushed}
use Rattle.refresh_index.proofs.push_row.Given as goal

abbrev pub invariant-loop-place : goal.invariant-loop-place
invariant-loop-place l = Pushed l.h l.rows l.columns l.buckets (l.row * length l.columns) l.initial.index (l.row * length l.columns + l.place) l.index

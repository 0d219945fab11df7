-- `refresh_scan::mark_unlisted` meets its contract. The loop's invariant: the rows wanted by the values of the parts taken are marked.
-- Assumes nothing.
use Rattle.std.specs.Slice.Iter.{chunks_rest, chunks_size}
use Rattle.refresh_scan.proofs.Prelude.{◌≡◌}
use Rattle.refresh_scan.proofs.BitmapSteps.{Parted}
use Rattle.refresh_scan.proofs.mark_unlisted.Given as goal

abbrev pub invariant-loop-part : goal.invariant-loop-part
invariant-loop-part l = record {
  size : chunks_size l.part-iterator ≡ 1024;
  parted : Parted l.h l.rows l.columns l.from l.values (chunks_rest l.part-iterator) l.initial.words l.words l.marked;
}

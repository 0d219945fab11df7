-- `merge_pending::next_record` meets its contract. Assumes nothing.
use native.Mathlib.Omega.{arith}
use Rattle.merge_pending.proofs.PassRecords.{skipped_one, skipped_run}
use Rattle.merge_pending.proofs.next_record.Goals as goal

pub bounds-pending-at : goal.bounds-pending-at
bounds-pending-at c = let p = c.requires in omega (arith, p.here, p.fits)

pub returns-then-kind-wanted : goal.returns-then-kind-wanted
returns-then-kind-wanted c = skipped_one c.requires

pub after_run-requires : goal.after_run-requires
after_run-requires c = let p = c.requires in (p.fits, p.here.inside, p.here.some)

pub returns : goal.returns
returns c = skipped_run c.requires c.if-kind-wanted.false c.after_run.ensures

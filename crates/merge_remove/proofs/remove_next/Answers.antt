-- `merge_remove::remove_next` meets its contract. Assumes nothing.
use Rattle.merge_remove.proofs.Prelude.{refl}
use Rattle.merge_remove.specs.inner.Removals.{died}
use Rattle.merge_remove.proofs.PassRemovals.{removed_other, removed_kind}
use Rattle.merge_remove.proofs.remove_next.Goals as goal

pub returns-then-pending-at : goal.returns-then-pending-at
unfolding died
returns-then-pending-at c = removed_other c.if-pending-at.true

pub remove_record-requires : goal.remove_record-requires
remove_record-requires c = let p = c.requires in (p.fits, p.whole c.if-pending-at.false)

pub returns : goal.returns
returns c = removed_kind _ c.if-pending-at.false c.requires.some_kind refl c.remove_record.ensures

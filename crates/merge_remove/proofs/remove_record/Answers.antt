-- `merge_remove::remove_record` meets its contract. Assumes nothing.
use Rattle.merge_remove.proofs.PassRemovals.{removed_record}
use Rattle.merge_remove.proofs.remove_record.Goals as goal

pub returns : goal.returns
returns c = removed_record c.remove_one.ensures

-- `offsets::SubsetFromSubsetRef::from` meets its contract. Assumes nothing.
use Rattle.std.proofs.Common.{sym, ◌∙◌}
use Rattle.offsets.specs.Laws.Subsets.{range_is, list_is, dense_is, sparse_is}
use Rattle.offsets.proofs.SubsetFromSubsetRef.from.Goals as goal

pub returns-then-lent : goal.returns-then-lent
returns-then-lent c = range_is _ _ ∙ sym (dense_is _ c.if-lent.true)

pub returns : goal.returns
returns c = list_is _ ∙ sym (sparse_is _ c.if-lent.false)

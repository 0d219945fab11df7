-- `abi::decode_subset` meets its contract. Assumes nothing.
use Rattle.offsets.specs.Laws.Subsets.{lent_is}
use Rattle.abi.proofs.decode_subset.Goals as goal

pub returns-clause-subset : goal.returns-clause-subset
returns-clause-subset c = lent_is _

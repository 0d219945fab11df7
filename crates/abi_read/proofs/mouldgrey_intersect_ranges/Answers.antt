-- `abi_read::mouldgrey_intersect_ranges` meets its contract. Assumes nothing.
use Rattle.abi_read.proofs.Prelude.{answers}
use Rattle.abi_read.proofs.mouldgrey_intersect_ranges.Goals as goal

pub returns : goal.returns
returns c output = answers (c.intersect_ranges-answer.ensures output) c.store_subset.ensures

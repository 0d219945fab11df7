-- `offsets::search::binary_search_part` meets its contract. Assumes nothing.
use Rattle.std.proofs.Common.{arith}
use Rattle.offsets.proofs.SearchSteps.{bracket_place}
use Rattle.offsets.proofs.search.binary_search_part.Goals as goal

pub binary_search_cells-requires : goal.binary_search_cells-requires
binary_search_cells-requires c = (record { inside = λ i h. omega (arith, c.requires.1) }, c.requires.0)

pub returns : goal.returns
returns c = bracket_place _ _ _ _ _ c.requires.1 c.binary_search_cells.ensures

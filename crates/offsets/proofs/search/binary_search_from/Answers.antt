-- `offsets::search::binary_search_from` meets its contract. Assumes nothing.
use Rattle.offsets.proofs.Prelude.{not_below_le}
use Rattle.offsets.proofs.search.binary_search_from.Goals as goal

pub returns : goal.returns
returns c = let s = c.binary_search_part.ensures in
    record { from = s.from; within = s.upto; first = λ e h. s.first e h (not_below_le _ _) }

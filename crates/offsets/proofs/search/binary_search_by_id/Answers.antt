-- `offsets::search::binary_search_by_id` meets its contract. Assumes nothing.
use Rattle.offsets.proofs.Prelude.{arith}
use Rattle.offsets.proofs.search.binary_search_by_id.Goals as goal

pub returns : goal.returns
returns c = let s = c.binary_search_from.ensures in
    record { within = s.within; first = λ e. s.first e (omega arith) }

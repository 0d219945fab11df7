-- `abi_read::mouldgrey_fast_subset` meets its contract. Assumes nothing.
use Rattle.abi_read.proofs.Prelude.{sym, answers, stored_range}
use Rattle.abi_read.proofs.mouldgrey_fast_subset.Goals as goal

pub returns : goal.returns
returns c = rw (sym c.decode_header-h.ensures, sym c.decode_condition.ensures) (answers c.fast_subset-answer.ensures (stored_range _ c.store.ensures.refused c.store.ensures.accepted))

-- `abi_read::mouldgrey_updates_since` meets its contract. Assumes nothing.
use Rattle.abi_read.proofs.Prelude.{sym, answers, stored_range}
use Rattle.abi_read.proofs.mouldgrey_updates_since.Goals as goal

pub returns : goal.returns
returns c = rw (sym c.decode_header.ensures) (answers c.updates_since-answer.ensures (stored_range _ c.store.ensures.refused c.store.ensures.accepted))

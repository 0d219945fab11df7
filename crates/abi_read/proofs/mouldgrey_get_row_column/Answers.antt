-- `abi_read::mouldgrey_get_row_column` meets its contract. Assumes nothing.
use Rattle.abi_read.proofs.Prelude.{sym, answers, stored_found}
use Rattle.abi_read.proofs.mouldgrey_get_row_column.Goals as goal

pub returns : goal.returns
returns c = rw (sym c.decode_header.ensures) (answers c.get_row_column-answer.ensures (stored_found _ c.store.ensures.refused c.store.ensures.accepted))

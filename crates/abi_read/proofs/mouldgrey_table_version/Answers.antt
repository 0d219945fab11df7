-- `abi_read::mouldgrey_table_version` meets its contract. Assumes nothing.
use Rattle.abi_read.proofs.Prelude.{sym, answers, stored_answer}
use Rattle.abi_read.proofs.mouldgrey_table_version.Goals as goal

pub returns : goal.returns
returns c = rw (sym c.decode_header.ensures) (answers c.version-answer.ensures (stored_answer _ c.store.ensures.refused c.store.ensures.accepted))

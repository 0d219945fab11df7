-- `abi_table::mouldgrey_open_table` meets its contract. Assumes nothing.
use Rattle.abi_table.proofs.Prelude.{answers, stored_answer}
use Rattle.abi_table.proofs.mouldgrey_open_table.Goals as goal

pub returns : goal.returns
returns c = answers c.open_table-answer.ensures (stored_answer _ c.store.ensures.refused c.store.ensures.accepted)

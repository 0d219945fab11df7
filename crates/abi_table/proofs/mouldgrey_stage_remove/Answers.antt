-- `abi_table::mouldgrey_stage_remove` meets its contract. Assumes nothing.
use Rattle.abi_table.proofs.Prelude.{sym, answers, stored_answer}
use Rattle.abi_table.proofs.mouldgrey_stage_remove.Goals as goal

pub returns : goal.returns
returns c = rw (sym c.decode_header.ensures) (answers c.stage_remove-answer.ensures (stored_answer _ c.store.ensures.refused c.store.ensures.accepted))

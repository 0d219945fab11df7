-- `abi_table::mouldgrey_is_sound` meets its contract. Assumes nothing.
use Rattle.abi_table.proofs.Prelude.{sym, answers, stored_answer}
use Rattle.abi_table.proofs.mouldgrey_is_sound.Goals as goal

pub returns : goal.returns
returns c = rw (sym c.decode_header.ensures) (answers c.is_sound-answer.ensures (stored_answer _ c.store.ensures.refused c.store.ensures.accepted))

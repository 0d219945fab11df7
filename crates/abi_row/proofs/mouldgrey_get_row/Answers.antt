-- `abi_row::mouldgrey_get_row` meets its contract. Assumes nothing.
use mathlib.Core.Path.{sym}
use Rattle.abi.specs.Laws.Encoding.{answers, stored_found}
use Rattle.abi_row.proofs.mouldgrey_get_row.Goals as goal

pub returns : goal.returns
returns c = rw (sym c.decode_header.ensures) (answers c.get_row-answer.ensures (stored_found _ c.store.ensures.refused c.store.ensures.accepted))

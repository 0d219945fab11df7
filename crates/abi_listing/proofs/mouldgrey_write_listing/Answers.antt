-- `abi_listing::mouldgrey_write_listing` meets its contract. Assumes nothing.
use Rattle.abi_listing.proofs.Prelude.{sym, answers}
use Rattle.abi_listing.proofs.mouldgrey_write_listing.Goals as goal

pub returns : goal.returns
returns c = rw (sym c.decode_header-h.ensures) (answers c.write_listing-answer.ensures c.store_length.ensures)

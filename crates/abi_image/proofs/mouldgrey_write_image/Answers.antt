-- `abi_image::mouldgrey_write_image` meets its contract. Assumes nothing.
use mathlib.Core.Path.{sym}
use Rattle.abi.specs.Laws.Encoding.{answers}
use Rattle.abi_image.proofs.mouldgrey_write_image.Goals as goal

pub returns : goal.returns
returns c = rw (sym c.decode_header-h.ensures) (answers c.write_image-answer.ensures c.store_length.ensures)

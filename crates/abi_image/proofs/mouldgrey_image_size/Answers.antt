-- `abi_image::mouldgrey_image_size` meets its contract. Assumes nothing.
use mathlib.Core.Path.{sym}
use Rattle.abi.specs.Laws.Encoding.{answers}
use Rattle.abi_image.proofs.mouldgrey_image_size.Goals as goal

pub returns : goal.returns
returns c = rw (sym c.decode_header-h.ensures) (answers c.image_size-answer.ensures c.store_length.ensures)

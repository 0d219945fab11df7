-- `abi_image::mouldgrey_read_image` meets its contract. Assumes nothing.
use Rattle.abi.specs.Laws.Encoding.{answers, stored_answer}
use Rattle.abi_image.proofs.mouldgrey_read_image.Goals as goal

pub returns : goal.returns
returns c = answers c.read_image-answer.ensures (stored_answer _ c.store.ensures.refused c.store.ensures.accepted)

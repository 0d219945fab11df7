-- `abi_image::mouldgrey_check_image` meets its contract. Assumes nothing.
use Rattle.abi.specs.Laws.Encoding.{answers, stored_answer}
use Rattle.abi_image.proofs.mouldgrey_check_image.Goals as goal

pub returns : goal.returns
returns c = answers c.check_image-answer.ensures (stored_answer _ c.store.ensures.refused c.store.ensures.accepted)

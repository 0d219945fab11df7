-- `image_check::parse::header_in` meets its contract. Assumes nothing.
use Rattle.image_check.proofs.Prelude.{◌∙◌}
use Rattle.image_check.proofs.ParsingSteps.{header_of_lem}
use Rattle.image_check.proofs.parse.header_in.Goals as goal

pub returns : goal.returns
returns c = c.decode_header.ensures ∙ header_of_lem _ _ c.copy_from_slice.ensures.after

-- `image_read::byte_at` meets its contract. Assumes nothing.
use Rattle.image_read.proofs.TextSteps.{byte_is}
use Rattle.image_read.proofs.byte_at.Goals as goal

pub returns : goal.returns
returns c = rw c.to_le_bytes.ensures (byte_is _ _ c.requires)

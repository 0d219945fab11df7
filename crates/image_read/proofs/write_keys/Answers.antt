-- `image_read::write_keys` meets its contract. Assumes nothing.
use Rattle.image_read.proofs.LoadingSteps.{keys_copied}
use Rattle.image_read.proofs.write_keys.Goals as goal

pub returns : goal.returns
returns c =
    keys_copied _ c.args.capacity _ _ c.requires.1 _ c.size_class_for-room.ensures c.if-t-room.false _ _ c.requires.0 c.write_part.ensures

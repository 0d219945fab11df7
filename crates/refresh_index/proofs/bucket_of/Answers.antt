-- `refresh_index::bucket_of` meets its contract. Assumes nothing.
use Rattle.key_index.specs.inner.Ring.{spread}
use Rattle.refresh_spec.specs.Index.{bucket_of}
use Rattle.refresh_index.proofs.bucket_of.Goals as goal

pub returns : goal.returns
unfolding bucket_of spread
returns c = (c.home_slot.ensures.value, c.home_slot.ensures.upper_bound)

-- `refresh_index::is_repeated` meets its contract. Assumes nothing.
use Rattle.refresh_index.proofs.Prelude.{refl}
use Rattle.refresh_index.proofs.is_repeated.Goals as goal

pub returns : goal.returns
returns c = let r = c.replace.ensures in rw (r.value, r.after, c.bucket_of-slot.ensures.0) (refl, refl)

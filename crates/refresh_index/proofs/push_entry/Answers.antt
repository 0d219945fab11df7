-- `refresh_index::push_entry` meets its contract. Assumes nothing.
use Rattle.refresh_index.proofs.Prelude.{length-set, rules}
use Rattle.refresh_index.specs.inner.Entries.{pushed}
use Rattle.refresh_index.proofs.push_entry.Goals as goal

pub bounds-index-head-2 : goal.bounds-index-head-2
bounds-index-head-2 c = simp length-set (search rules)

pub returns : goal.returns
unfolding pushed
returns c = rw c.bucket_of.ensures.0

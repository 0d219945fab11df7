-- `refresh_index::mark_listed` meets its contract. Assumes nothing.
use Rattle.refresh_index.proofs.ValueSteps.{noted_begin}
use Rattle.refresh_index.proofs.mark_listed.Goals as goal

pub mark_values-requires : goal.mark_values-requires
mark_values-requires c = (c.requires.0, c.requires.1, c.requires.2, noted_begin _)

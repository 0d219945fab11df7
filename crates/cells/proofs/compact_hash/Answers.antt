-- `cells::compact_hash` meets its contract. Assumes nothing.
use Rattle.cells.proofs.Prelude.{ap, ◌∙◌}
use Rattle.cells.specs.Cells.{compact_hash}
use Rattle.cells.proofs.compact_hash.Goals as goal

pub returns : goal.returns
returns c = c.from_full.ensures ∙ ap compact_hash c.key_hash.ensures

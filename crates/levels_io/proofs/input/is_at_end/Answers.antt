-- `levels_io::input::is_at_end` meets its contract. Assumes nothing.
use Rattle.levels_io.specs.inner.Taking.{end_none, end_some}
use Rattle.levels_io.proofs.input.is_at_end.Goals as goal

pub returns-then-input-eq0 : goal.returns-then-input-eq0
returns-then-input-eq0 c = end_none _ c.requires c.if-input-eq0.true

pub returns-else-input-eq0 : goal.returns-else-input-eq0
returns-else-input-eq0 c = end_some _ c.requires c.if-input-eq0.false

-- `key_index::names_row` meets its contract. Assumes nothing.
use Rattle.key_index.proofs.Prelude.{sym, names_none}
use Rattle.key_index.proofs.WordSteps.{names_some}
use Rattle.key_index.proofs.names_row.Goals as goal

pub returns-then-number-eq0 : goal.returns-then-number-eq0
returns-then-number-eq0 c = sym (names_none _ _ c.if-number-eq0.true)

pub returns : goal.returns
returns c = names_some _ _ c.if-number-eq0.false

-- `sort_entries::value_from` meets its contract. Assumes nothing.
use Rattle.sort_entries.proofs.LawsCheck.{value_at_lem, value_past}
use Rattle.sort_entries.proofs.value_from.Goals as goal

pub returns-then-entries-at : goal.returns-then-entries-at
returns-then-entries-at c = value_past _ _ _ c.if-entries-at.true

pub returns : goal.returns
returns c = value_at_lem _ _ _ c.if-entries-at.false

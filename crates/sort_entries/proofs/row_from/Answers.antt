-- `sort_entries::row_from` meets its contract. Assumes nothing.
use Rattle.sort_entries.proofs.LawsSearch.{row_at, row_past}
use Rattle.sort_entries.proofs.row_from.Goals as goal

pub returns-then-entries-at : goal.returns-then-entries-at
returns-then-entries-at c = row_past _ _ _ _ c.if-entries-at.true

pub returns : goal.returns
returns c = row_at _ _ _ _ c.if-entries-at.false

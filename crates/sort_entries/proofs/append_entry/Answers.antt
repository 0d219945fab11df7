-- `sort_entries::append_entry` meets its contract. Assumes nothing.
use Rattle.sort_entries.proofs.Prelude.{arith, length-set, append_same, append_new, rises, rises_none}
use Rattle.sort_entries.proofs.append_entry.Goals.{then-entries-gt0+else-value-sorts, else-entries-gt0}
use Rattle.sort_entries.proofs.append_entry.Goals as goal

pub returns-then-value-sorts : goal.returns-then-value-sorts
returns-then-value-sorts c = append_same _ _ _ _ c.if-entries-gt0.true c.if-value-sorts.true

pub bounds-sorts-at-2 : goal.bounds-sorts-at-2
bounds-sorts-at-2 c = simp length-set (omega arith)

pub returns : goal.returns
returns c = append_new _ _ _ _ c.requires (elim c.if-entries-gt0.branch [ then-entries-gt0+else-value-sorts w ↦ rises _ _ _ w.if-entries-gt0.true w.if-value-sorts.false | else-entries-gt0 w ↦ rises_none _ _ _ w.if-entries-gt0.false ])

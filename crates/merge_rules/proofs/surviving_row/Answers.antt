-- `merge_rules::surviving_row` meets its contract. Assumes nothing.
use Rattle.merge_rules.proofs.Laws.{new_survives, old_survives}
use Rattle.merge_rules.proofs.surviving_row.Goals as goal

pub returns-then-changes : goal.returns-then-changes
returns-then-changes c =
    let a = c.args in
    new_survives a.rule a.keys a.sort a.width a.rows.now a.old a.pending.now a.new _ c.changes.ensures c.if-changes.true

pub returns-else-changes : goal.returns-else-changes
returns-else-changes c =
    let a = c.args in
    old_survives a.rule a.keys a.sort a.width a.rows.now a.old a.pending.now a.new _ c.changes.ensures c.if-changes.false

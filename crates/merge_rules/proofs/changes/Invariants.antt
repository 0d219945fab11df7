-- `merge_rules::changes` meets its contract. The loop's invariant: whether a cell changes from the start on is whether one
-- does from column i on. It begins behind the keys. Assumes nothing.
use Rattle.merge_rules.proofs.Prelude.{◌≡◌, drop, changes_from}
use Rattle.merge_rules.proofs.changes.Given as goal

abbrev pub invariant-loop-column : goal.invariant-loop-column
invariant-loop-column l = changes_from l.rule l.keys l.sort 0 l.old l.new ≡ changes_from l.rule l.keys l.sort l.column (drop l.column l.old) (drop l.column l.new)

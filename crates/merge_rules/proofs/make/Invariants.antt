-- `merge_rules::make` meets its contract. The loop's invariant: the first i cells are those of the row made, the others as
-- they were. Assumes nothing.
use Rattle.merge_rules.proofs.Prelude.{◌≤◌, ◌≡◌, ◌++◌, length, take, drop, made_from}
use Rattle.merge_rules.proofs.make.Given as goal

abbrev pub invariant-loop-column : goal.invariant-loop-column
invariant-loop-column l = (l.column ≤ length l.old) × (length l.out ≡ length l.initial.out) × (l.out ≡ take l.column (made_from l.rule l.keys l.sort 0 l.old l.new) ++ drop l.column l.initial.out)

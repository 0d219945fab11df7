-- `table::refusing::is_words_short` meets its contract. Assumes nothing.
use Rattle.table.proofs.Prelude.{arith}
use Rattle.table.proofs.RefusingSteps.{capacity_few, words_live, words_base}
use Rattle.table.proofs.refusing.is_words_short.Goals as goal

pub overflow_add-needed : goal.overflow_add-needed
overflow_add-needed c = omega (arith, capacity_few _ c.requires)

pub returns-then-l-needed : goal.returns-then-l-needed
returns-then-l-needed c = words_live _ _ c.if-l-needed.true

pub returns : goal.returns
returns c = words_base _ _ c.if-l-needed.false

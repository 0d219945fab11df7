-- `table_check::largest_sound` meets its contract. Assumes nothing.
use Rattle.std.proofs.Common.{rules}
use Rattle.table_check.proofs.CheckingSteps.{largest_empty, largest_compared}
use Rattle.table_check.proofs.largest_sound.Goals as goal

pub returns-then-h-eq0 : goal.returns-then-h-eq0
returns-then-h-eq0 c = let a = c.args in largest_empty a.h a.sorts.now c.if-h-eq0.true

pub returns : goal.returns
returns c =
    let a = c.args in
    largest_compared a.h a.sorts.now _ c.if-h-eq0.false _ c.is_some_and.ensures (λ value p. search rules)

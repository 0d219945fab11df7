-- `test_probes::mouldgrey_surviving_row` meets its contract. Assumes nothing.
use Rattle.test_probes.proofs.Prelude.{arith, survives_nothing, survives_done}
use Rattle.test_probes.proofs.mouldgrey_surviving_row.Goals as goal

pub returns-then-rule-gt1 : goal.returns-then-rule-gt1
returns-then-rule-gt1 c = survives_nothing _ _ _ _ _ _ _ _ _ (λ f. let h = f.0 in omega arith)

pub returns-then-rows-width : goal.returns-then-rows-width
returns-then-rows-width c = survives_nothing _ _ _ _ _ _ _ _ _ (λ f. let h = f.1 in omega arith)

pub returns-then-rows-width-2 : goal.returns-then-rows-width-2
returns-then-rows-width-2 c = survives_nothing _ _ _ _ _ _ _ _ _ (λ f. let h = f.1 in omega arith)

pub returns-then-pending-width : goal.returns-then-pending-width
returns-then-pending-width c = survives_nothing _ _ _ _ _ _ _ _ _ (λ f. let h = f.2 in omega arith)

pub returns-then-pending-width-2 : goal.returns-then-pending-width-2
returns-then-pending-width-2 c = survives_nothing _ _ _ _ _ _ _ _ _ (λ f. let h = f.2 in omega arith)

pub returns-then-out-width : goal.returns-then-out-width
returns-then-out-width c = survives_nothing _ _ _ _ _ _ _ _ _ (λ f. let h = f.3 in omega arith)

pub returns : goal.returns
returns c =
    let q = c.if-rule-gt1.false in
    survives_done _ _ _ _ _ _ _ _ _ _ (omega arith) c.copy_survivor.ensures

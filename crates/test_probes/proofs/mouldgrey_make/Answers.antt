-- `test_probes::mouldgrey_make` meets its contract. Assumes nothing.
use Rattle.test_probes.proofs.Prelude.{arith, made_nothing, made_done}
use Rattle.test_probes.proofs.mouldgrey_make.Goals as goal

pub returns-then-old-new : goal.returns-then-old-new
returns-then-old-new c = made_nothing _ _ _ _ _ _ (λ f. c.if-old-new.true f.0)

pub returns-then-out-old : goal.returns-then-out-old
returns-then-out-old c = made_nothing _ _ _ _ _ _ (λ f. let h = f.1 in omega arith)

pub returns : goal.returns
returns c =
    let m = c.make in
    let t = c.if-old-new in
    made_done _ _ _ _ _ _ _ t.false m.ensures

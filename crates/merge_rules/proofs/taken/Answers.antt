-- `merge_rules::taken` meets its contract: one return for each rule. Assumes nothing.
use Rattle.merge_rules.proofs.Prelude.{◌≢◌, arith, ne_eqb}
use Rattle.merge_rules.specs.Rules.{taken}
use Rattle.merge_rules.proofs.taken.Goals as goal

pub returns-in-1 : goal.returns-in-1
unfolding taken
returns-in-1 c = simp c.in-1.is

pub returns-in-2 : goal.returns-in-2
unfolding taken
returns-in-2 c = simp (c.in-2.is, c.smaller.ensures)

pub returns-in-3 : goal.returns-in-3
unfolding taken
returns-in-3 c = simp (c.in-3.is, c.larger.ensures)

pub returns-in_default : goal.returns-in_default
unfolding taken
returns-in_default c =
    let one : c.args.rule ≢ 1 = omega arith in
    let two : c.args.rule ≢ 2 = omega arith in
    let three : c.args.rule ≢ 3 = omega arith in
    simp (ne_eqb _ _ one, ne_eqb _ _ two, ne_eqb _ _ three)

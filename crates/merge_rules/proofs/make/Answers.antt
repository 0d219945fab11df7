use Rattle.merge_rules.proofs.Prelude.{refl, ◌∙◌, rules, arith, length-set}
use Rattle.merge_rules.proofs.Laws.{make_step, make_end}
use Rattle.merge_rules.proofs.make.Goals as goal

pub loop-column-init : goal.loop-column-init
loop-column-init c = (search rules, refl, refl)

pub loop-column-preserved : goal.loop-column-preserved
loop-column-preserved c =
    let l = c.loop-column in
    (search rules, simp length-set l.invariant.1, make_step _ _ _ _ _ _ c.requires.0 _ l.column _ (omega arith) (omega arith) l.invariant.2 c.made_cell.ensures)

pub returns : goal.returns
returns c =
    let l = c.loop-column in
    l.invariant.2 ∙ make_end _ _ _ _ _ _ c.requires.0 l.column (omega arith)

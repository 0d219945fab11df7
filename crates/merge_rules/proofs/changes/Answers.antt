use Rattle.merge_rules.proofs.Prelude.{◌≤◌, ◌<◌, sym, ◌∙◌, arith, length, dec_le, changes_behind}
use Rattle.merge_rules.proofs.Laws.{old_ended, new_ended, changed, unchanged}
use Rattle.merge_rules.proofs.changes.Goals as goal

pub loop-column-init : goal.loop-column-init
loop-column-init c = changes_behind _ _ _ _ _

pub returns-then-cell_changes : goal.returns-then-cell_changes
returns-then-cell_changes c =
    let l = c.loop-column in
    let in_old : l.column < length c.args.old.now = omega arith in
    let in_new : l.column < length c.args.new.now = omega arith in
    sym (l.invariant ∙ changed _ _ _ _ _ l.column in_old in_new c.cell_changes.result c.cell_changes.ensures c.if-cell_changes.true)

pub loop-column-preserved : goal.loop-column-preserved
loop-column-preserved c =
    let l = c.loop-column in
    let in_old : l.column < length c.args.old.now = omega arith in
    let in_new : l.column < length c.args.new.now = omega arith in
    l.invariant ∙ unchanged _ _ _ _ _ l.column in_old in_new c.cell_changes.result c.cell_changes.ensures c.if-cell_changes.false

pub returns : goal.returns
returns c =
    let l = c.loop-column in
    elim (dec_le (length c.args.old.now) l.column) [
      | yes h ↦ sym (l.invariant ∙ old_ended _ _ _ _ _ l.column h)
      | no n ↦ let h : length c.args.new.now ≤ l.column = omega arith in sym (l.invariant ∙ new_ended _ _ _ _ _ l.column h)
    ]

use Rattle.row_buffer.proofs.Prelude.{ℕ, ◌+◌, ◌≡◌, ap, ◌∙◌, List, arith, set, get_or}
use Rattle.row_buffer.proofs.Laws.{down, down_step}
use Rattle.row_buffer.proofs.move_row.Goals as goal

pub loop-i-preserved : goal.loop-i-preserved
loop-i-preserved c =
    let a = c.args in
    ap (λ (d : List ℕ). set d c.loop-i.i (get_or d (a.gap + c.loop-i.i) 0)) c.loop-i.invariant ∙ down_step a.part.now a.gap c.loop-i.i (omega arith)

pub returns : goal.returns
returns c =
    let a = c.args in
    let e : c.loop-i.i ≡ a.width = omega arith in
    c.loop-i.invariant ∙ ap (down a.part.now a.gap) e

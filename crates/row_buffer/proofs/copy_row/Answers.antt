use Rattle.row_buffer.proofs.Prelude.{ℕ, ◌≡◌, ap, ◌∙◌, List, arith, length, set, get_or, take-length, copy_step}
use Rattle.row_buffer.proofs.copy_row.Goals as goal

pub loop-i-preserved : goal.loop-i-preserved
loop-i-preserved c =
    let a = c.args in
    ap (λ (d : List ℕ). set d c.loop-i.i (get_or a.row.now c.loop-i.i 0)) c.loop-i.invariant ∙ copy_step a.row.now a.part.now c.loop-i.i 0 (omega arith) (omega arith)

pub returns : goal.returns
returns c =
    let a = c.args in
    let e : c.loop-i.i ≡ length a.row.now = omega arith in
    c.loop-i.invariant ∙ rw (e, take-length a.row.now)

use Rattle.row_buffer.proofs.Prelude.{refl, sym, ap, ◌∙◌, arith, length, same_ne}
use Rattle.row_buffer.proofs.Laws.{differ, agree, ended}
use Rattle.row_buffer.proofs.same_cells.Goals as goal

pub returns-then-a-b : goal.returns-then-a-b
returns-then-a-b c = sym (same_ne _ _ (λ e. c.if-a-b.true (ap length e)))

pub returns-then-a-i : goal.returns-then-a-i
returns-then-a-i c =
    sym (c.loop-i.invariant ∙ differ c.args.a.now c.args.b.now c.loop-i.i (omega arith) (omega arith) c.if-a-i.true)

pub loop-i-preserved : goal.loop-i-preserved
loop-i-preserved c = c.loop-i.invariant ∙ agree c.args.a.now c.args.b.now c.loop-i.i (omega arith) (omega arith) c.if-a-i.false

pub returns : goal.returns
returns c = sym (c.loop-i.invariant ∙ ended c.args.a.now c.args.b.now c.loop-i.i (omega arith) (omega arith))

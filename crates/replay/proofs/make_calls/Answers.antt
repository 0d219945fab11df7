use Rattle.replay.proofs.Prelude.{refl, sym, none_made}
use Rattle.replay.proofs.ReplaySteps.{lengths_same, going_again, going_end}
use Rattle.replay.proofs.make_calls.Goals as goal

pub loop-frame-preserved-in-Some-decode : goal.loop-frame-preserved-in-Some-decode
loop-frame-preserved-in-Some-decode c =
    going_again c.loop-frame.invariant _ c.in-Some.ensures.steps
    (lengths_same c.make_call-n.auto.rows c.make_call-n.auto.keys c.make_call-n.auto.sorts c.make_call-n.auto.pending c.make_call-n.auto.live c.make_call-n.auto.base)
    c.make_call-n.auto.index
    (rw c.in-Some-decode.ensures at c.make_call-n.ensures)

pub loop-frame-preserved : goal.loop-frame-preserved
loop-frame-preserved c = going_again c.loop-frame.invariant _ c.in-Some.ensures.steps refl refl (none_made _ _ _ _ (sym c.in_default.ensures))

pub returns : goal.returns
returns c = going_end c.loop-frame.invariant c.in-None.ensures.steps.0

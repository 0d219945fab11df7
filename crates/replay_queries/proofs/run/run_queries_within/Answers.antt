use Rattle.replay_queries.proofs.Prelude.{ap, length, sym, ◌∙◌, arith}
use Rattle.replay_queries.proofs.RunSteps.{going_begin, going_again, going_end}
use Rattle.replay_queries.proofs.run.run_queries_within.Goals as goal

pub loop-frame-init : goal.loop-frame-init
loop-frame-init c = let p = c.requires in going_begin p.0 p.1 p.2 p.3 (rw c.into_iter-frame-iterator.ensures.into_iter_gives)

pub loop-frame-preserved : goal.loop-frame-preserved
loop-frame-preserved c = going_again c.loop-frame.invariant _ c.in-Some.ensures.steps c.execute_query-n.ensures c.execute_query-n.auto.first c.execute_query-n.auto.second

pub execute_query-n-requires : goal.execute_query-n-requires
execute_query-n-requires c =
    let v = c.loop-frame.invariant in
    (rw v.first_long v.fits, v.second_long ∙ v.alike ∙ sym v.first_long, omega (arith, v.early, ap length c.in-Some.ensures.steps, c.well_formed))

pub returns : goal.returns
returns c = going_end c.loop-frame.invariant c.in-None.ensures.steps.0

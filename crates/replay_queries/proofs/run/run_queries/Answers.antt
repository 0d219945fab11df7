-- `replay_queries::run::run_queries` meets its contract. Assumes nothing.
use Rattle.replay_queries.proofs.Prelude.{refl}
use Rattle.replay_queries.proofs.RunSteps.{room_first, room_second, room_alike, made_within}
use Rattle.replay_queries.proofs.run.run_queries.Goals as goal

pub slice_bounds-run_queries_within-end-2 : goal.slice_bounds-run_queries_within-end-2
slice_bounds-run_queries_within-end-2 c = let a = c.args in room_first _ a.first.now a.second.now c.min-room.ensures

pub slice_bounds-run_queries_within-end-4 : goal.slice_bounds-run_queries_within-end-4
slice_bounds-run_queries_within-end-4 c = let a = c.args in room_second _ a.first.now a.second.now c.min-room.ensures

pub run_queries_within-requires : goal.run_queries_within-requires
run_queries_within-requires c = let a = c.args in (refl, refl, refl, room_alike _ a.first.now a.second.now c.min-room.ensures)

pub returns : goal.returns
returns c = let a = c.args in made_within a.lent _ a.first.now a.second.now c.min-room.ensures c.run_queries_within.ensures c.run_queries_within.auto.first c.run_queries_within.auto.second

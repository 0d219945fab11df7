-- `replay::replay` meets its contract. Assumes nothing.
use Rattle.std.proofs.lemmas.Result.{err_from_is_err_and}
use Rattle.replay.specs.Laws.Theorem.{replay_refused, replay_made}
use Rattle.replay.proofs.replay.Goals as goal

pub returns-in_err-h : goal.returns-in_err-h
returns-in_err-h c =
    let p = err_from_is_err_and c.from_residual.result c.from_residual.ensures.1 in
    rw (p.1, p.2) (replay_refused _ _ _ c.open_table-opened.ensures _ c.in_err-h.was)

pub returns : goal.returns
returns c = replay_made _ _ _ c.open_table-opened.ensures _ _ _ _ _ _ c.in_ok-h.was c.open_table-opened.auto.keys c.make_calls-n.ensures

-- `query_scan::step` meets its contract. Assumes nothing.
use Rattle.query_scan.proofs.Prelude.{arith}
use Rattle.query_scan.proofs.ScanSteps.{dead_at_most, steps_miss, steps_hit, keeps_moves}
use Rattle.query_scan.proofs.step.Goals as goal

pub overflow_add-n : goal.overflow_add-n
overflow_add-n c = let a = c.args in omega (arith, c.requires.few, c.dead_at.ensures, dead_at_most a.h a.rows.now a.s.id)

pub returns-then-not-hit : goal.returns-then-not-hit
returns-then-not-hit c = steps_miss _ _ _ _ _ _ c.dead_at.ensures _ c.if-not-hit.true _ c.move_on.ensures

pub keep_id-kept-requires : goal.keep_id-kept-requires
keep_id-kept-requires c = let p = c.requires in (p.can_move.more, p.can_add c.if-not-hit.false)

pub move_on-requires-2 : goal.move_on-requires-2
move_on-requires-2 c = let p = c.requires.can_move in keeps_moves _ _ _ _ _ (record { id_is = p.id_is; more = p.more; within = p.within }) c.keep_id-kept.ensures

pub returns : goal.returns
returns c = steps_hit _ _ _ _ _ _ c.dead_at.ensures _ c.if-not-hit.false _ _ _ c.keep_id-kept.ensures c.move_on-2.ensures

use Rattle.query_scan.proofs.ScanSteps.{scanned_begin, next_in_store, can_step, steps_less, stepped, finished}
use Rattle.query.proofs.loops.scan.Goals as goal

pub loop-at-init : goal.loop-at-init
loop-at-init c = scanned_begin _ _ _ _ _ _ c.requires

pub is_match-hit-requires : goal.is_match-hit-requires
is_match-hit-requires c = next_in_store _ c.args.rows.now _ _ _ _ c.requires _ _ c.loop-at.invariant c.loop-at-test.true

pub step-at-requires : goal.step-at-requires
step-at-requires c = can_step _ c.args.rows.now _ _ _ _ c.requires _ _ c.loop-at.invariant c.loop-at-test.true _ c.is_match-hit.ensures

pub loop-at-smaller : goal.loop-at-smaller
loop-at-smaller c = steps_less _ _ _ _ _ _ _ _ c.loop-at-test.true c.step-at.ensures

pub loop-at-preserved : goal.loop-at-preserved
loop-at-preserved c =
    stepped _ c.args.rows.now _ _ _ _ c.requires _ _ c.loop-at.invariant c.loop-at-test.true _ c.is_match-hit.ensures _ _ c.step-at.ensures

pub shape_of-out : goal.shape_of-out
shape_of-out c = c.loop-at.invariant.grows.same

pub returns : goal.returns
returns c = finished _ c.args.rows.now _ _ _ _ c.requires _ _ c.loop-at.invariant c.loop-at-test.false

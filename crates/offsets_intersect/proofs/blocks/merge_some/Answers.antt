use Rattle.offsets_intersect.proofs.Prelude.{refl, arith}
use Rattle.offsets_intersect.proofs.Passing.{merged_to_none, past_other, past_id, past_both, pace_on, pace_end}
use Rattle.offsets_intersect.proofs.blocks.merge_some.Goals as goal

pub loop-other-init : goal.loop-other-init
loop-other-init c =
    let pre = c.requires in
    record {
      up = pre.0.up;
      others_up = pre.1.up;
      fits = pre.0.fits;
      begun = pre.4;
      merged_to = merged_to_none _ _ _ _ _ _ (omega arith) (omega arith);
      more = pre.2;
      others_more = pre.3;
      short = c.stop_from-stop.ensures.1;
      here = refl;
      there = refl;
    }

-- past an other
pub shape_of-output-then-others-o : goal.shape_of-output-then-others-o
shape_of-output-then-others-o c = c.loop-other.invariant.merged_to.same

pub returns-then-others-o : goal.returns-then-others-o
returns-then-others-o c = let w = c.loop-other.invariant in pace_end w (past_other w c.if-other-id.true) (omega arith)

pub loop-other-preserved-then-other-id : goal.loop-other-preserved-then-other-id
loop-other-preserved-then-other-id c = let w = c.loop-other.invariant in pace_on w (past_other w c.if-other-id.true) w.more c.if-others-o.false w.short w.here refl

-- past both
pub shape_of-output-then-ids-i : goal.shape_of-output-then-ids-i
shape_of-output-then-ids-i c = (past_both c.loop-other.invariant c.if-id-other.true).same

pub returns-then-ids-i : goal.returns-then-ids-i
returns-then-ids-i c = let w = c.loop-other.invariant in pace_end w (past_both w c.if-id-other.true) (omega arith)

pub shape_of-output-then-others-o-2 : goal.shape_of-output-then-others-o-2
shape_of-output-then-others-o-2 c = (past_both c.loop-other.invariant c.if-id-other.true).same

pub returns-then-others-o-2 : goal.returns-then-others-o-2
returns-then-others-o-2 c = let w = c.loop-other.invariant in pace_end w (past_both w c.if-id-other.true) (omega arith)

pub loop-other-preserved-then-id-other : goal.loop-other-preserved-then-id-other
loop-other-preserved-then-id-other c =
    let w = c.loop-other.invariant in
    pace_on w (past_both w c.if-id-other.true) c.if-ids-i.false c.if-others-o-2.false c.stop_from-stop-then-id-other.ensures.1 refl refl

-- past an id
pub shape_of-output-then-stop-i : goal.shape_of-output-then-stop-i
shape_of-output-then-stop-i c = c.loop-other.invariant.merged_to.same

pub returns-then-stop-i : goal.returns-then-stop-i
returns-then-stop-i c = let w = c.loop-other.invariant in pace_end w (past_id w c.if-other-id.false c.if-id-other.false) (omega arith)

pub loop-other-preserved : goal.loop-other-preserved
loop-other-preserved c =
    let w = c.loop-other.invariant in
    pace_on w (past_id w c.if-other-id.false c.if-id-other.false) (omega (arith, c.if-stop-i.false, w.short)) w.others_more w.short refl w.there

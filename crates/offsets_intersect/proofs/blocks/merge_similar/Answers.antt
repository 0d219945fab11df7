use Rattle.offsets_intersect.proofs.Prelude.{arith}
use Rattle.offsets_intersect.proofs.Passing.{merged_to_none, merged_to_on, merged_to_passed, merged_to_end, merged_to_others_end}
use Rattle.offsets_intersect.proofs.blocks.merge_similar.Goals as goal

pub loop-walk-init : goal.loop-walk-init
loop-walk-init c = merged_to_none _ _ _ _ _ _ (omega arith) (omega arith)

pub merge_some-walked-requires : goal.merge_some-walked-requires
merge_some-walked-requires c =
    let w = c.loop-walk.invariant in
    let pre = c.requires in
    (record { up = pre.0.up; short = pre.0.short; fits = omega (arith, pre.0.fits, w.same) }, pre.1, c.loop-walk-test.true, c.if-walk-others.true, omega (arith, w.few))

pub skip_apart-walk-requires : goal.skip_apart-walk-requires
skip_apart-walk-requires c =
    let pre = c.requires in
    let merged_to = c.merge_some-walked.ensures.0 in
    (record { up = pre.0.up; short = pre.0.short }, pre.1, merged_to.within, merged_to.others_within)

pub loop-walk-smaller : goal.loop-walk-smaller
loop-walk-smaller c =
    let p = c.skip_apart-walk.ensures.0 in
    omega (arith, c.merge_some-walked.ensures.1, p.on, p.others_on, p.within, p.others_within)

pub loop-walk-preserved : goal.loop-walk-preserved
loop-walk-preserved c = rw c.skip_apart-walk.ensures.1 (merged_to_passed (merged_to_on c.loop-walk.invariant c.merge_some-walked.ensures.0) c.skip_apart-walk.ensures.0)

pub shape_of-output-else-walk-others : goal.shape_of-output-else-walk-others
shape_of-output-else-walk-others c = c.loop-walk.invariant.same

pub returns-else-walk-others : goal.returns-else-walk-others
returns-else-walk-others c = merged_to_others_end c.loop-walk.invariant c.requires.0.fits c.if-walk-others.false

pub shape_of-output-after-loop-walk : goal.shape_of-output-after-loop-walk
shape_of-output-after-loop-walk c = c.loop-walk.invariant.same

pub returns-after-loop-walk : goal.returns-after-loop-walk
returns-after-loop-walk c = merged_to_end c.loop-walk.invariant c.requires.0.fits c.loop-walk-test.false

use Rattle.offsets_intersect.proofs.Prelude.{arith, scan_place}
use Rattle.offsets_intersect.proofs.Passing.{gallop_begin, scan_hit, scan_miss, merged_to_end, merged_to_others_end}
use Rattle.offsets_intersect.proofs.gallop_along.Goals.{in-Ok, in-Err}
use Rattle.offsets_intersect.proofs.gallop_along.Goals as goal

pub loop-i-init : goal.loop-i-init
loop-i-init c = gallop_begin _ _ _

pub shape_of-output-then-end-o : goal.shape_of-output-then-end-o
shape_of-output-then-end-o c = c.loop-i.invariant.merged_to.same

pub returns-then-end-o : goal.returns-then-end-o
returns-then-end-o c = merged_to_others_end c.loop-i.invariant.merged_to c.requires.0.fits c.if-end-o.true

pub overflow_add-o : goal.overflow_add-o
unfolding scan_place
overflow_add-o c = let s = rw c.in-Ok.is at c.scan_for_offset.ensures in omega (arith, s.within, c.requires.1)

pub loop-i-preserved : goal.loop-i-preserved
loop-i-preserved c =
    elim c.match-scan_for_offset.branch [
      | in-Ok w ↦
          rw (w.output-is, w.o-is, w.n-is)
          (scan_hit c.requires.0 c.requires.1 c.loop-i.invariant c.loop-i-test.true _ (rw w.in-Ok.is at c.scan_for_offset.ensures))
      | in-Err w ↦
          rw (w.output-is, w.o-is, w.n-is)
          (scan_miss c.requires.0 c.requires.1 c.loop-i.invariant c.loop-i-test.true _ (rw w.in-Err.is at c.scan_for_offset.ensures))
    ]

pub shape_of-output : goal.shape_of-output
shape_of-output c = c.loop-i.invariant.merged_to.same

pub returns : goal.returns
returns c = merged_to_end c.loop-i.invariant.merged_to c.requires.0.fits c.loop-i-test.false

use Rattle.sort_entries.proofs.LawsCheck.{begins, stops, steps, ends}
use Rattle.sort_entries.proofs.advance.Goals as goal

pub loop-at-init : goal.loop-at-init
loop-at-init c = begins _ _ _ _ c.requires.from_le_entries

pub returns-then-row-sorts : goal.returns-then-row-sorts
returns-then-row-sorts c = stops _ _ _ _ _ c.loop-at.invariant c.loop-at-test.true c.if-row-sorts.true

pub loop-at-preserved : goal.loop-at-preserved
loop-at-preserved c = steps _ _ _ _ _ c.loop-at.invariant c.loop-at-test.true c.if-row-sorts.false

pub returns : goal.returns
returns c = ends _ _ _ _ _ c.loop-at.invariant c.loop-at-test.false

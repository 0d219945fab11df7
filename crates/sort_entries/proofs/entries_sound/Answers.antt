use Rattle.sort_entries.proofs.Prelude.{arith, rules, below_more}
use Rattle.sort_entries.proofs.LawsCheck.{starts_late, breaks, holds}
use Rattle.sort_entries.proofs.entries_sound.Goals as goal

pub returns-then-row_from-ne0 : goal.returns-then-row_from-ne0
returns-then-row_from-ne0 c = starts_late _ _ _ _ c.row_from.ensures c.if-row_from-ne0.true

pub loop-i-init : goal.loop-i-init
loop-i-init c = (search rules, λ j h. absurd (omega arith))

pub returns-then-not-entry_sound : goal.returns-then-not-entry_sound
returns-then-not-entry_sound c = breaks _ _ _ _ c.loop-i-test.true (c.entry_sound.ensures.no c.if-not-entry_sound.true)

pub loop-i-preserved : goal.loop-i-preserved
loop-i-preserved c = (search rules, below_more _ _ c.loop-i.invariant.1 (c.entry_sound.ensures.yes c.if-not-entry_sound.false))

pub returns : goal.returns
returns c = holds _ _ _ _ c.row_from.ensures c.if-row_from-ne0.false (λ i h. c.loop-i.invariant.1 i (omega arith))

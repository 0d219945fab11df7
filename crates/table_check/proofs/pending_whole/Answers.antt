use Rattle.table_check.proofs.Prelude.{◌+◌, ◌≤◌, arith}
use Rattle.table_check.proofs.CheckingSteps.{reach_start, reach_on, reach_broken, reach_end}
use Rattle.table_check.proofs.pending_whole.Goals.{Else-words-eq0}
use Rattle.table_check.proofs.pending_whole.Goals as goal

-- a record ends within the words in use
ends : (c : Else-words-eq0) → c.loop-at.at + c.record_words-words.result ≤ c.args.h.pending
ends c = (c.record_words-words.ensures.yes (omega (arith, c.if-words-eq0.false))).3

pub loop-at-init : goal.loop-at-init
loop-at-init c = reach_start _ _ _

pub returns-then-words-eq0 : goal.returns-then-words-eq0
returns-then-words-eq0 c = reach_broken _ _ _ c.loop-at.invariant c.loop-at-test.true (rw c.if-words-eq0.true at c.record_words-words.ensures)

pub overflow_add-at : goal.overflow_add-at
overflow_add-at c = omega (arith, ends c)

pub loop-at-smaller : goal.loop-at-smaller
loop-at-smaller c = omega (arith, ends c, c.if-words-eq0.false)

pub loop-at-preserved : goal.loop-at-preserved
loop-at-preserved c = reach_on _ _ _ _ c.loop-at.invariant _ c.record_words-words.ensures c.if-words-eq0.false

pub returns : goal.returns
returns c = reach_end _ _ _ c.loop-at.invariant c.loop-at-test.false

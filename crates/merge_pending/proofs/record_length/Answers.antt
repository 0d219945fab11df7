-- `merge_pending::record_length` meets its contract. Assumes nothing.
use native.Mathlib.Omega.{arith}
use Rattle.merge_pending.proofs.PassRecords.{length_end, length_unknown, length_tested}
use Rattle.merge_pending.proofs.record_length.Goals as goal

pub returns-then-h-at : goal.returns-then-h-at
returns-then-h-at c = let a = c.args in length_end a.h a.pending.now a.at c.if-h-at.true

pub returns-then-kind-gt-REMOVE_ROW : goal.returns-then-kind-gt-REMOVE_ROW
returns-then-kind-gt-REMOVE_ROW c = let a = c.args in length_unknown a.h a.pending.now a.at c.if-kind-gt-REMOVE_ROW.true

pub returns : goal.returns
returns c = let a = c.args in rw c.then_some.ensures (length_tested a.h a.pending.now a.at _ c.kind_words-words.ensures (omega arith) (omega arith) c.if-kind-gt-REMOVE_ROW.false)

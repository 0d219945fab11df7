-- `merge::finish` meets its contract. Assumes nothing.
use mathlib.Core.Path.{sym, ◌∙◌}
use native.Mathlib.Omega.{arith}
use Rattle.merge.proofs.MergingSteps.{due_left, lendable_emptied, finish_stopped, finish_kept, finish_compacted}
use Rattle.merge.proofs.finish.Goals as goal

pub returns-in-Some : goal.returns-in-Some
returns-in-Some c = rw c.from.ensures (finish_stopped _ _ _ _ _ _ _ _ c.in-Some.is)

pub returns-then-not-is_due : goal.returns-then-not-is_due
returns-then-not-is_due c = finish_kept _ _ _ _ _ _ _ c.in_default.is (sym c.is_due.ensures ∙ c.if-not-is_due.true)

pub compact_rows-compacted-requires : goal.compact_rows-compacted-requires
compact_rows-compacted-requires c =
    (lendable_emptied c.requires, due_left c.args.m.header.dead c.args.m.header.rows c.args.m.header.generation (sym c.is_due.ensures ∙ c.if-not-is_due.false) (omega (arith, c.struct_known-1.given.0.1.1.1.1.1.1.1.1.1.0)))

pub returns : goal.returns
returns c =
    finish_compacted _ _ _ _ _ _ _ c.in_default.is (sym c.is_due.ensures ∙ c.if-not-is_due.false) _ _ _ _ _ _ c.compact_rows-compacted.ensures

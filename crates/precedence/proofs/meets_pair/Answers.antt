-- `precedence::meets_pair` meets its contract. Assumes nothing.
use Rattle.precedence.proofs.Prelude.{◌∙◌, arith}
use Rattle.precedence.proofs.Steps.{RowInStore, row_in_store, not_named, named}
use Rattle.precedence.proofs.meets_pair.Goals.{Start}
use Rattle.precedence.proofs.meets_pair.Goals as goal

lies : (s : Start) → RowInStore s.args.h s.args.rows.now s.args.row
lies s = row_in_store _ _ _ s.requires.0 _ s.requires.2

pub overflow_add-at : goal.overflow_add-at
overflow_add-at c = omega (arith, lies (goal.at.overflow_add-at c).Start, c.requires.1)

pub offset_bounds-rows-at : goal.offset_bounds-rows-at
offset_bounds-rows-at c = omega (arith, lies (goal.at.offset_bounds-rows-at c).Start, c.requires.1)

pub bounds-rows-at : goal.bounds-rows-at
bounds-rows-at c = omega (arith, lies (goal.at.bounds-rows-at c).Start, c.requires.1)

pub returns-then-rows-at : goal.returns-then-rows-at
returns-then-rows-at c = λ sound differ. not_named _ _ _ c.requires.0 _ _ 0 c.requires.1 c.requires.2 _ _ (rw c.row_start.ensures at c.if-rows-at.true)

pub returns : goal.returns
returns c = λ sound differ. c.is_row_filed.ensures sound differ ∙ named _ _ _ c.requires.0 _ _ 0 c.requires.1 c.requires.2 _ _ (rw c.row_start.ensures at c.if-rows-at.false)

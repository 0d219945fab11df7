-- `vault::cell_above` meets its contract. Assumes nothing.
use Rattle.vault.proofs.Prelude.{arith}
use Rattle.vault.proofs.Filling.{above_none, above_some, above_inside}
use Rattle.vault.proofs.cell_above.Goals as goal

pub returns-then-row-eq0 : goal.returns-then-row-eq0
returns-then-row-eq0 c = above_none _ _ _ _ c.if-row-eq0.true

pub overflow_add-at : goal.overflow_add-at
overflow_add-at c = let a = c.args in let h = above_inside a.width a.column a.row a.cells.now c.if-row-eq0.false c.requires.0 c.requires.1 in omega (arith, h.0, h.1)

pub overflow_sub-result : goal.overflow_sub-result
overflow_sub-result c = let a = c.args in let h = above_inside a.width a.column a.row a.cells.now c.if-row-eq0.false c.requires.0 c.requires.1 in omega (arith, h.0, h.1)

pub bounds-cells-at : goal.bounds-cells-at
bounds-cells-at c = let a = c.args in let h = above_inside a.width a.column a.row a.cells.now c.if-row-eq0.false c.requires.0 c.requires.1 in omega (arith, h.0, h.1)

pub returns : goal.returns
returns c = above_some _ _ _ _ c.if-row-eq0.false

use Rattle.vault.proofs.Prelude.{◌+◌, ◌*◌, arith}
use Rattle.vault.proofs.Filling.{column_scan_begin, column_scan_end, difference_more, to_inside, from_inside, columns_inside, rows_inside}
use Rattle.vault.proofs.ToColumnsDirection.rearrange_column.Goals as goal

pub overflow_mul-base : goal.overflow_mul-base
overflow_mul-base c = let p = c.requires in omega (arith, columns_inside p.0 c.args.column p.2)

pub cell_above-above-requires : goal.cell_above-above-requires
cell_above-above-requires c = let p = c.requires in (p.2, rows_inside p.0 _ (omega (arith, p.1.forward, p.1.inside)))

pub loop-row-init : goal.loop-row-init
loop-row-init c = column_scan_begin c.requires.1.forward c.cell_above-above.ensures

pub overflow_mul-cell : goal.overflow_mul-cell
overflow_mul-cell c = let p = c.requires in omega (arith, from_inside p.0 p.1 c.loop-row-test.true p.2)

pub overflow_add-cell : goal.overflow_add-cell
overflow_add-cell c = let p = c.requires in omega (arith, from_inside p.0 p.1 c.loop-row-test.true p.2)

pub offset_bounds-cells-row : goal.offset_bounds-cells-row
offset_bounds-cells-row c = let p = c.requires in omega (arith, from_inside p.0 p.1 c.loop-row-test.true p.2)

pub bounds-cells-row : goal.bounds-cells-row
bounds-cells-row c = let p = c.requires in from_inside p.0 p.1 c.loop-row-test.true p.2

pub overflow_add-output : goal.overflow_add-output
overflow_add-output c = let p = c.requires in omega (arith, to_inside p.0 p.1 c.loop-row-test.true p.2, p.0.room, c.loop-row.invariant.filled.same)

pub offset_bounds-output-base : goal.offset_bounds-output-base
offset_bounds-output-base c = let p = c.requires in omega (arith, to_inside p.0 p.1 c.loop-row-test.true p.2, p.0.room, c.loop-row.invariant.filled.same)

pub bounds-output-base : goal.bounds-output-base
bounds-output-base c = let p = c.requires in omega (arith, to_inside p.0 p.1 c.loop-row-test.true p.2, p.0.room, c.loop-row.invariant.filled.same)

pub loop-row-preserved : goal.loop-row-preserved
loop-row-preserved c = let p = c.requires in difference_more p.0 p.1 p.2 (λ i. omega (arith, c.type_inv.cells i)) c.loop-row-test.true c.loop-row.invariant (omega arith) (omega (arith, c.type_inv.cells (c.loop-row.row * c.args.width + c.args.column)))

pub shape_of-output : goal.shape_of-output
shape_of-output c = c.loop-row.invariant.filled.same

pub returns : goal.returns
returns c = column_scan_end c.loop-row.invariant c.loop-row-test.false

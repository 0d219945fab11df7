use Rattle.vault.proofs.Prelude.{◌∙◌, refl, arith}
use Rattle.vault.proofs.Filling.{column_scan_begin, column_scan_end, sum_more, above_summed, to_inside, from_inside, columns_inside, rows_fit}
use Rattle.vault.proofs.FromColumnsDirection.rearrange_column.Goals as goal

pub overflow_mul-base : goal.overflow_mul-base
overflow_mul-base c = let p = c.requires in omega (arith, columns_inside p.0 c.args.column p.2)

pub cell_above-above-requires : goal.cell_above-above-requires
cell_above-above-requires c = let p = c.requires in (p.2, rows_fit p.0 _ (omega (arith, p.1.forward, p.1.inside)))

pub loop-row-init : goal.loop-row-init
loop-row-init c = let p = c.requires in column_scan_begin p.1.forward (c.cell_above-above.ensures ∙ above_summed _ c.args.rows _ _ _ _ p.2 p.3)

pub overflow_add-above : goal.overflow_add-above
overflow_add-above c = let p = c.requires in omega (arith, to_inside p.0 p.1 c.loop-row-test.true p.2)

pub offset_bounds-cells-base : goal.offset_bounds-cells-base
offset_bounds-cells-base c = let p = c.requires in omega (arith, to_inside p.0 p.1 c.loop-row-test.true p.2)

pub bounds-cells-base : goal.bounds-cells-base
bounds-cells-base c = let p = c.requires in to_inside p.0 p.1 c.loop-row-test.true p.2

pub overflow_mul-output : goal.overflow_mul-output
overflow_mul-output c = let p = c.requires in omega (arith, from_inside p.0 p.1 c.loop-row-test.true p.2, p.0.room, c.loop-row.invariant.filled.same)

pub overflow_add-output : goal.overflow_add-output
overflow_add-output c = let p = c.requires in omega (arith, from_inside p.0 p.1 c.loop-row-test.true p.2, p.0.room, c.loop-row.invariant.filled.same)

pub offset_bounds-output-row : goal.offset_bounds-output-row
offset_bounds-output-row c = let p = c.requires in omega (arith, from_inside p.0 p.1 c.loop-row-test.true p.2, p.0.room, c.loop-row.invariant.filled.same)

pub bounds-output-row : goal.bounds-output-row
bounds-output-row c = let p = c.requires in omega (arith, from_inside p.0 p.1 c.loop-row-test.true p.2, p.0.room, c.loop-row.invariant.filled.same)

pub loop-row-preserved : goal.loop-row-preserved
loop-row-preserved c = let p = c.requires in sum_more p.0 p.1 p.2 (λ i. omega (arith, c.type_inv.cells i)) c.loop-row-test.true c.loop-row.invariant refl

pub shape_of-output : goal.shape_of-output
shape_of-output c = c.loop-row.invariant.filled.same

pub returns : goal.returns
returns c = column_scan_end c.loop-row.invariant c.loop-row-test.false

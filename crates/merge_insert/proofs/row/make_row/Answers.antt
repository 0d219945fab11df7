-- `merge_insert::row::make_row` meets its contract. Assumes nothing.
use Rattle.merge_insert.proofs.Prelude.{◌≤◌, arith, length}
use Rattle.merge_insert.proofs.InsertSteps.{old_width, survivor_width, survivor_fits, survivor_kept, survivor_made, made_not, made_third}
use Rattle.merge_insert.proofs.row.make_row.Goals.{After-struct_known-then-h-le-TAKE_NEW-1}
use Rattle.merge_insert.proofs.row.make_row.Goals as goal

-- both rows have their keys
survivor_keys : (c : After-struct_known-then-h-le-TAKE_NEW-1) → c.args.h.keys ≤ length c.surviving_row-row.result.now
survivor_keys c = let m = c.requires in let w = survivor_width _ _ _ _ _ _ _ (rw c.row_start-old_at.ensures at c.surviving_row-row.ensures) m in omega (arith, m.few_keys)

pub slice_bounds-same_cells-count : goal.slice_bounds-same_cells-count
slice_bounds-same_cells-count c = survivor_keys c

pub slice_bounds-same_cells-start : goal.slice_bounds-same_cells-start
slice_bounds-same_cells-start c = survivor_keys c

pub slice_bounds-same_cells-count-then-h-le-TAKE_NEW : goal.slice_bounds-same_cells-count-then-h-le-TAKE_NEW
slice_bounds-same_cells-count-then-h-le-TAKE_NEW c = let m = c.requires in let w = old_width _ _ _ _ _ _ m in rw c.row_start-old_at.ensures (omega (arith, m.few_keys))

pub slice_bounds-same_cells-start-then-h-le-TAKE_NEW : goal.slice_bounds-same_cells-start-then-h-le-TAKE_NEW
slice_bounds-same_cells-start-then-h-le-TAKE_NEW c = let m = c.requires in let w = old_width _ _ _ _ _ _ m in rw c.row_start-old_at.ensures (omega (arith, m.few_keys))

pub returns-then-same_cells : goal.returns-then-same_cells
returns-then-same_cells c =
    let a = c.args in
    let e = c.row_start-old_at.ensures in
    survivor_kept a.h a.rows.now a.pending.now a.out.now a.old a.from _ (rw e at c.surviving_row-row.ensures) _ (rw e at c.same_cells.ensures) c.if-same_cells.true

pub write_row-requires : goal.write_row-requires
write_row-requires c = survivor_fits _ _ _ _ _ _ _ (rw c.row_start-old_at.ensures at c.surviving_row-row.ensures) c.requires

pub returns-then-h-le-TAKE_NEW : goal.returns-then-h-le-TAKE_NEW
returns-then-h-le-TAKE_NEW c =
    let e = c.row_start-old_at.ensures in
    let a = c.args in
    survivor_made a.h a.rows.now a.pending.now a.out.now a.old a.from _ (rw e at c.surviving_row-row.ensures) _ (rw e at c.same_cells.ensures) c.if-same_cells.false c.if-h-le-TAKE_NEW.true _ c.write_row.ensures

pub returns-then-not-changes : goal.returns-then-not-changes
returns-then-not-changes c =
    let a = c.args in
    made_not a.h a.rows.now a.pending.now a.out.now a.old a.from _ (rw c.row_start-old_at.ensures at c.changes.ensures) c.if-not-changes.true

pub returns : goal.returns
returns c =
    let a = c.args in
    let e = c.row_start-old_at.ensures in
    made_third a.h a.rows.now a.pending.now a.out.now a.old a.from _ (rw e at c.changes.ensures) c.if-not-changes.false c.if-h-le-TAKE_NEW.false _ (rw e at c.make.ensures)

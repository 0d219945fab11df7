-- `key_check::is_found` meets its contract. Assumes nothing.
use Rattle.key_check.proofs.Prelude.{arith, rows_in_lem, Inside, row_inside}
use Rattle.key_check.proofs.CheckSteps.{own_decided}
use Rattle.key_check.proofs.is_found.Goals.{Start}
use Rattle.key_check.proofs.is_found.Goals as goal

lies : (s : Start) → Inside s.args.rows.now s.args.t.columns s.args.row
lies s = row_inside _ _ _ (rows_in_lem _ _ _ s.requires.0) s.requires.1

pub overflow_add-to : goal.overflow_add-to
overflow_add-to c = omega (arith, lies (goal.at.overflow_add-to c).Start, c.requires.0.most_keys)

pub offset_bounds-rows-from : goal.offset_bounds-rows-from
offset_bounds-rows-from c = omega (arith, lies (goal.at.offset_bounds-rows-from c).Start)

pub slice_bounds-compact_hash-end : goal.slice_bounds-compact_hash-end
slice_bounds-compact_hash-end c = omega (arith, lies (goal.at.slice_bounds-compact_hash-end c).Start, c.requires.0.most_keys)

pub offset_bounds-rows-from-2 : goal.offset_bounds-rows-from-2
offset_bounds-rows-from-2 c = omega (arith, lies (goal.at.offset_bounds-rows-from-2 c).Start)

pub slice_bounds-is_reached-end : goal.slice_bounds-is_reached-end
slice_bounds-is_reached-end c = omega (arith, lies (goal.at.slice_bounds-is_reached-end c).Start, c.requires.0.most_keys)

pub returns : goal.returns
returns c =
    let e = c.row_start-from.ensures in
    own_decided c.args.t c.args.rows.now c.args.store.now c.args.row c.requires.0.most_keys _ (rw e at c.compact_hash-hash.ensures) _ (rw e at c.is_reached.ensures)

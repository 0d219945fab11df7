-- `key_check::row_live` meets its contract. Assumes nothing.
use Rattle.key_check.proofs.Prelude.{◌∙◌, arith, Inside, row_inside}
use Rattle.key_check.proofs.CheckSteps.{row_part}
use Rattle.key_check.proofs.row_live.Goals.{Start}
use Rattle.key_check.proofs.row_live.Goals as goal

lies : (s : Start) → Inside s.args.rows.now s.args.t.columns s.args.row
lies s = row_inside _ _ _ s.requires.0 s.requires.1

pub overflow_add-to : goal.overflow_add-to
overflow_add-to c = omega (arith, lies (goal.at.overflow_add-to c).Start)

pub offset_bounds-rows-from : goal.offset_bounds-rows-from
offset_bounds-rows-from c = omega (arith, lies (goal.at.offset_bounds-rows-from c).Start)

pub slice_bounds-is_live-end : goal.slice_bounds-is_live-end
slice_bounds-is_live-end c = omega (arith, lies (goal.at.slice_bounds-is_live-end c).Start)

pub returns : goal.returns
returns c =
    rw c.row_start-from.ensures at c.is_live.ensures ∙ row_part c.args.t c.args.rows.now c.args.row

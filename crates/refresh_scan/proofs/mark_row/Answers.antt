-- `refresh_scan::mark_row` meets its contract. Assumes nothing.
use Rattle.refresh_scan.proofs.Prelude.{◌∙◌, rules, arith}
use Rattle.refresh_scan.proofs.BitmapSteps.{RowInStore, row_in_store, columns_in_lem, dead_mentions, live_mentions, row_passed, row_marked}
use Rattle.refresh_scan.proofs.mark_row.Goals.{Start}
use Rattle.refresh_scan.proofs.mark_row.Goals as goal

lies : (s : Start) → RowInStore s.args.h s.args.rows.now s.args.row
lies s = row_in_store s.requires.0 s.requires.1

pub is_dead-requires : goal.is_dead-requires
is_dead-requires c = omega (arith, lies (goal.at.is_dead-requires c).Start)

pub returns-then-is_dead : goal.returns-then-is_dead
returns-then-is_dead c =
    row_passed _ _ _ _ _ (dead_mentions _ _ _ _ _ (lies (goal.at.returns-then-is_dead c).Start) c.requires.1 _ (rw c.row_start-at.ensures at c.is_dead.ensures) c.if-is_dead.true)

pub overflow_add-at : goal.overflow_add-at
overflow_add-at c = omega (arith, lies (goal.at.overflow_add-at c).Start)

pub offset_bounds-rows-at : goal.offset_bounds-rows-at
offset_bounds-rows-at c = omega (arith, lies (goal.at.offset_bounds-rows-at c).Start)

pub slice_bounds-mentions_one-end : goal.slice_bounds-mentions_one-end
slice_bounds-mentions_one-end c = omega (arith, lies (goal.at.slice_bounds-mentions_one-end c).Start)

pub mentions_one-requires : goal.mentions_one-requires
mentions_one-requires c =
    rw c.row_start-at.ensures (columns_in_lem _ _ _ c.args.values.now _ (lies (goal.at.mentions_one-requires c).Start) c.requires.1 c.requires.0.columns_there, c.requires.2)

pub returns-then-not-mentions_one : goal.returns-then-not-mentions_one
returns-then-not-mentions_one c =
    let e = c.row_start-at.ensures in
    row_passed _ _ _ _ _
    (live_mentions _ _ _ _ _ (lies (goal.at.returns-then-not-mentions_one c).Start) c.requires.1 _ (rw e at c.is_dead.ensures) c.if-is_dead.false _ (rw e at c.mentions_one.ensures)
    ∙ c.if-not-mentions_one.true)

pub mark-requires : goal.mark-requires
mark-requires c = (search rules, (lies (goal.at.mark-requires c).Start).below)

pub returns : goal.returns
returns c =
    let e = c.row_start-at.ensures in
    row_marked _ _ _ _ _
    (live_mentions _ _ _ _ _ (lies (goal.at.returns c).Start) c.requires.1 _ (rw e at c.is_dead.ensures) c.if-is_dead.false _ (rw e at c.mentions_one.ensures)
    ∙ c.if-not-mentions_one.false)
    (lies (goal.at.returns c).Start).below
    c.mark.ensures

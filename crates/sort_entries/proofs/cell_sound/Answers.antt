-- `sort_entries::cell_sound` meets its contract. Assumes nothing.
use Rattle.sort_entries.proofs.Prelude.{◌+◌, ◌*◌, ◌≤◌, ◌<◌, sym, ◌∙◌, mul-le-mul, arith, length, row_in}
use Rattle.sort_entries.proofs.LawsCheck.{dead_row_lem, live_row_lem}
use Rattle.sort_entries.proofs.cell_sound.Goals.{Start}
use Rattle.sort_entries.proofs.cell_sound.Goals as goal

-- the row is inside the store, and its position fits
inside : (s : Start) → let a = s.args in (a.row * a.columns + a.columns ≤ length a.store.now) × (a.row * a.columns + a.columns ≤ 524288) × (a.sort < a.columns)
inside s =
    let a = s.args in
    let p = row_in a.row a.rows a.columns s.requires.row_lt_rows in
    let q = mul-le-mul s.requires.cells.few s.requires.cells.narrow in
    (omega (arith, s.requires.cells), omega (arith, s.requires.cells), s.requires.cells.column)

pub offset_bounds-store-at : goal.offset_bounds-store-at
offset_bounds-store-at c = omega (arith, inside (goal.at.offset_bounds-store-at c).Start)

pub bounds-store-at : goal.bounds-store-at
bounds-store-at c = omega (arith, inside (goal.at.bounds-store-at c).Start)

pub returns-then-is_stale : goal.returns-then-is_stale
returns-then-is_stale c = dead_row_lem _ _ _ _ _ (omega (arith, c.requires.cells, c.requires.row_lt_rows)) (sym (rw c.row_start-at.ensures at c.is_stale.ensures) ∙ c.if-is_stale.true)

pub overflow_add-cell : goal.overflow_add-cell
overflow_add-cell c = omega (arith, inside (goal.at.overflow_add-cell c).Start)

pub offset_bounds-store-at-2 : goal.offset_bounds-store-at-2
offset_bounds-store-at-2 c = omega (arith, inside (goal.at.offset_bounds-store-at-2 c).Start)

pub bounds-store-at-2 : goal.bounds-store-at-2
bounds-store-at-2 c = omega (arith, inside (goal.at.bounds-store-at-2 c).Start)

pub returns : goal.returns
returns c =
    let e = c.row_start-at.ensures in
    rw e (live_row_lem _ _ _ _ _ c.requires.cells.column (sym (rw e at c.is_stale.ensures) ∙ c.if-is_stale.false))

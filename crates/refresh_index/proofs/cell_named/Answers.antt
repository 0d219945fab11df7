-- `refresh_index::cell_named` meets its contract. Assumes nothing.
use Rattle.refresh_index.proofs.Prelude.{◌<◌, sym, arith, get_or, get_d_row_at, Inside}
use Rattle.refresh_index.specs.inner.Entries.{cell_named}
use Rattle.refresh_index.proofs.Sizes.{cell_in}
use Rattle.refresh_index.proofs.cell_named.Goals.{Start}
use Rattle.refresh_index.proofs.cell_named.Goals as goal

lies : (s : Start) → let a = s.args in Inside a.rows.now a.h.columns a.row × (get_or a.columns.now a.place 0 < a.h.columns)
lies s = cell_in s.requires.0 _ _ s.requires.1 s.requires.2

pub overflow_cast-at : goal.overflow_cast-at
overflow_cast-at c = omega (arith, lies (goal.at.overflow_cast-at c).Start)

pub overflow_add-at : goal.overflow_add-at
overflow_add-at c = omega (arith, lies (goal.at.overflow_add-at c).Start)

pub offset_bounds-rows-at : goal.offset_bounds-rows-at
offset_bounds-rows-at c = omega (arith, lies (goal.at.offset_bounds-rows-at c).Start)

pub bounds-rows-at : goal.bounds-rows-at
bounds-rows-at c = omega (arith, lies (goal.at.bounds-rows-at c).Start)

pub returns : goal.returns
unfolding cell_named
returns c = rw c.row_start.ensures (sym (get_d_row_at _ _ _ _ 0 (lies (goal.at.returns c).Start).1))

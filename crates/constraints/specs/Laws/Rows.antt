-- A row of a store is live or dead by its first cell. Assumes nothing.
use Rattle.std.specs.Prelude.{ℕ, ◌*◌, ◌<◌, ◌≡◌, not, List, get_or}
use Rattle.std.proofs.Common.{ap, ◌∙◌, add-zero}
use Rattle.lists.specs.Lists.{row_at}
use Rattle.lists.specs.Laws.Rows.{get_d_row_at}
use Rattle.cells.specs.Cells.{is_dead}
use Rattle.constraints.specs.Constraints.{is_live}

pub first_cell : (columns row : ℕ) (rows : List ℕ) → 0 < columns → get_or (row_at columns row rows) 0 0 ≡ get_or rows (row * columns) 0
first_cell columns row rows h = get_d_row_at columns row rows 0 0 h ∙ rw add-zero

pub live_first : (columns row : ℕ) (rows : List ℕ) → 0 < columns → is_live (row_at columns row rows) ≡ not (is_dead (get_or rows (row * columns) 0))
unfolding is_live
live_first columns row rows h = ap (λ (cell : ℕ). not (is_dead cell)) (first_cell columns row rows h)

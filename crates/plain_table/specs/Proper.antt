-- The invariant of plain tables: it holds after any calls from an accepted opening whose generation is a u32. Assumes nothing.
use Rattle.std.specs.Prelude.{ℕ, ◌≤◌, ◌<◌, ◌≡◌, Bool, true, false, not, ◌||◌, [], length, take, get_or, leb, eqb}
use Rattle.std.proofs.Math.Option.{Option, none, some}
use Rattle.lists.specs.Lists.{all}
use Rattle.cells.specs.Cells.{is_dead}
use Rattle.plain_table.specs.Staged.{openable}
use Rattle.plain_table.specs.Refusing.{wrong_width}
use Rattle.plain_table.specs.Plain.{Row, Plain}

-- row i; past the end, a dead row without cells
abbrev pub row_of : Plain → ℕ → Row
row_of p i = get_or p.rows i (record { live = false; cells = [] })

abbrev pub sort_cell : Plain → Row → ℕ
sort_cell p row = get_or row.cells p.opening.sort 0

-- there is a largest value, and this one does not exceed it
unfoldable pub at_most : ℕ → Option ℕ → Bool
at_most value none = false
at_most value (some largest) = leb value largest

pub record Proper (p : Plain) : Type 0 where
  pub numbers : openable p.opening ≡ true
  pub generation_fits : p.generation ≤ 4294967295
  pub rows_fit : length p.rows ≤ p.opening.capacity
  pub widths : all (λ row. eqb (length row.cells) p.opening.columns) p.rows ≡ true
  -- the first cell of a live row is not the dead mark
  pub live_first : all (λ row. not row.live || not (is_dead (get_or row.cells 0 0))) p.rows ≡ true
  -- live rows have different keys
  pub keys_differ : (i j : ℕ) → (row_of p i).live ≡ true → (row_of p j).live ≡ true
      → take p.opening.keys (row_of p i).cells ≡ take p.opening.keys (row_of p j).cells → i ≡ j
  -- sort cells never fall, those of dead rows included
  pub sorted : (i j : ℕ) → i ≤ j → j < length p.rows → sort_cell p (row_of p i) ≤ sort_cell p (row_of p j)
  -- no sort cell exceeds the largest value appended, and there is one wherever there are rows
  pub largest_kept : all (λ row. at_most (sort_cell p row) p.largest) p.rows ≡ true
  pub staged_whole : all (λ r. not (wrong_width p.opening r)) p.staged ≡ true

-- The row store after a row is marked dead. Assumes nothing.
use Rattle.std.specs.Prelude.{ℕ, ◌≡◌, Bool, List, get_or, set}
use Rattle.cells.specs.Cells.{is_dead}

-- the answer, and the store with the dead mark in place of the row's first cell
pub record Staled (rows : List ℕ) (at : ℕ) (was : Bool) (rows' : List ℕ) : Type 0 where
  pub before : was ≡ is_dead (get_or rows at 0)
  pub cells : rows' ≡ set rows at 4294967295

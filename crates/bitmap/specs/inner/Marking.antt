-- Contracts of a bitmap word computed from cells. Assumes nothing.
use Rattle.std.specs.Prelude.{ℕ, ◌+◌, ◌*◌, ◌≤◌, Bool, not, List, eqb, length, get_or}

-- up to 64 positions, `stride` cells apart, are inside a store
pub record Spaced (cells : List ℕ) (from stride count : ℕ) : Type 0 where
  pub few : count ≤ 64
  pub apart : 1 ≤ stride
  pub inside : from + count * stride ≤ length cells

-- the cell at a position is different from `than`
unfoldable pub other_at : List ℕ → ℕ → ℕ → ℕ → ℕ → Bool
other_at cells from stride than place = not (eqb (get_or cells (from + place * stride) 0) than)

-- A list tested from its start up to a position. Assumes nothing.
use Rattle.std.specs.Prelude.{◌≡◌, ℕ, ◌≤◌, List, length, drop}
use Rattle.lists.specs.Lists.{rising}

-- all ids rise exactly if those from position `at` on do
pub record RisesUpTo (ids : List ℕ) (at : ℕ) : Type 0 where
  pub in_list : at ≤ length ids
  pub same : rising ids ≡ rising (drop at ids)

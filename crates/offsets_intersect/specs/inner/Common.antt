-- Contracts of the functions that `intersect` calls. Assumes nothing.
use Rattle.std.specs.Prelude.{ℕ, ◌*◌, ◌/◌, ◌≤◌, ◌<◌, ◌≡◌, Bool, true, ◌&&◌, ◌||◌, List, length, leb}
use Rattle.lists.specs.Lists.{filter, rising, elem}

-- a list that fits an output
pub record Fitting (ids output : List ℕ) : Type 0 where
  pub up : rising ids ≡ true
  pub short : length ids ≤ 65536
  pub fits : length ids ≤ length output

-- a list that may be searched
pub record Searchable (ids : List ℕ) : Type 0 where
  pub up : rising ids ≡ true
  pub short : length ids ≤ 65536

-- the ids of the first list that the second one has
unfoldable pub common : List ℕ → List ℕ → List ℕ
common ids others = filter (λ id. elem id others) ids

-- ---- the algorithm is chosen by the lengths alone, "on the Rust's thresholds"

-- "Lists of like length are walked in step"
unfoldable pub similar : ℕ → ℕ → Bool
similar a b = (leb a 16 && leb b 16) || (leb (a / 4) b && leb b (a * 4))

-- "otherwise": the second list is much longer, and is searched by doubling strides for the ids of the first
abbrev pub MuchLonger : ℕ → ℕ → Type 0
MuchLonger a b = (16 < b) × (4 * a < b)

-- Contracts of the merge of lists of similar length. Assumes nothing.
use Rattle.std.specs.Prelude.{ℕ, ◌+◌, ◌≤◌, ◌<◌, ◌≡◌, List, ◌++◌, length, take, drop, get_or}
use Rattle.offsets_intersect.specs.inner.Common.{common}

-- the id is not in the block
pub record Lacks (others : List ℕ) (id : ℕ) : Type 0 where
  pub none : (m : ℕ) → m < 4 → id ≡ get_or others m 0 → ⊥

-- the first n ids are not in the block
pub record Apart (ids others : List ℕ) (n : ℕ) : Type 0 where
  pub each : (j : ℕ) → j < n → Lacks others (get_or ids j 0)

-- the k ids from two positions on have none in common
pub record ApartAt (ids others : List ℕ) (i o k : ℕ) : Type 0 where
  pub room : i + k ≤ length ids
  pub others_room : o + k ≤ length others
  pub apart : (j m : ℕ) → j < k → m < k → get_or ids (i + j) 0 ≡ get_or others (o + m) 0 → ⊥

-- the lists from i and o on have the same ids in common as from i' and o' on
pub record SkippedTo (ids others : List ℕ) (i o i' o' : ℕ) : Type 0 where
  pub on : i ≤ i'
  pub others_on : o ≤ o'
  pub within : i' ≤ length ids
  pub others_within : o' ≤ length others
  pub rest : common (drop i' ids) (drop o' others) ≡ common (drop i ids) (drop o others)

-- the same, if the common ids before i' and o' are appended to the n ids of an output
pub record MergedTo (ids others output output' : List ℕ) (i o n i' o' n' : ℕ) : Type 0 where
  pub on : i ≤ i'
  pub others_on : o ≤ o'
  pub within : i' ≤ length ids
  pub others_within : o' ≤ length others
  pub more : n ≤ n'
  pub few : n' + i ≤ n + i'
  pub same : length output' ≡ length output
  pub rest : take n' output' ++ common (drop i' ids) (drop o' others) ≡ take n output ++ common (drop i ids) (drop o others)
  pub kept : drop n' output' ≡ drop n' output

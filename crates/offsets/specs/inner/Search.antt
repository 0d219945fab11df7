-- Contracts of the searches in a list of ids. Assumes nothing.
use Rattle.std.specs.Prelude.{◌≡◌, ℕ, ◌+◌, ◌*◌, ◌<◌, ◌≤◌, true, cond, List, length, slice_index, slice_index_or, Result, Ok, Err}
use Rattle.lists.specs.Lists.{rising, elem}
use Rattle.lists.specs.inner.Searching.{first_not_below}

-- n numbers, `width` cells apart, are inside a store
pub record Spaced (cells : List ℕ) (width n : ℕ) : Type 0 where
  pub inside : (i : ℕ) → i < n → width * i < length cells

-- the number before `low` is below the target, and the number at `high` is not
pub record Bracketed (cells : List ℕ) (width start end target low high : ℕ) : Type 0 where
  pub from : start ≤ low
  pub order : low ≤ high
  pub upto : high ≤ end
  pub below : (i : ℕ) → start ≤ i → i + 1 ≡ low → slice_index cells (width * i) < target
  pub above : high < end → target ≤ slice_index cells (width * high)

-- "`binary_search_by_id` gives the first place whose id is not below"
pub record Searched (ids : List ℕ) (target r : ℕ) : Type 0 where
  pub within : r ≤ length ids
  pub first : rising ids ≡ true → r ≡ first_not_below target ids

-- the same from a start on, if all ids before it are below the target
pub record SearchedFrom (ids : List ℕ) (start target r : ℕ) : Type 0 where
  pub from : start ≤ r
  pub within : r ≤ length ids
  pub first : rising ids ≡ true → start ≤ first_not_below target ids → r ≡ first_not_below target ids

-- the same between two positions
pub record SearchedPart (ids : List ℕ) (start end target r : ℕ) : Type 0 where
  pub from : start ≤ r
  pub upto : r ≤ end
  pub first : rising ids ≡ true → start ≤ first_not_below target ids → first_not_below target ids ≤ end → r ≡ first_not_below target ids

-- the strides stop at the target
pub record ReachedAt (ids : List ℕ) (target p : ℕ) : Type 0 where
  pub inside : p < length ids
  pub hit : slice_index_or ids p 0 ≡ target

-- the strides stop with the target's position between two others
pub record ReachedBetween (ids : List ℕ) (target low high : ℕ) : Type 0 where
  pub order : low ≤ high
  pub within : high ≤ length ids
  pub after : rising ids ≡ true → low ≤ first_not_below target ids
  pub upto : rising ids ≡ true → first_not_below target ids ≤ high

-- the position in a result
unfoldable pub scan_place : Result ℕ ℕ → ℕ
scan_place (Ok p) = p
scan_place (Err p) = p

-- the result of a scan: the target at its position, or the position to insert it at
unfoldable pub scan : ℕ → List ℕ → Result ℕ ℕ
scan target ids = cond (elem target ids) (Ok (first_not_below target ids)) (Err (first_not_below target ids))

pub record ScannedAt (ids : List ℕ) (at target : ℕ) (r : Result ℕ ℕ) : Type 0 where
  pub within : scan_place r ≤ length ids
  pub finds : rising ids ≡ true → at ≡ first_not_below target ids → r ≡ scan target ids

pub record Scanned (ids : List ℕ) (start target : ℕ) (r : Result ℕ ℕ) : Type 0 where
  pub within : scan_place r ≤ length ids
  pub finds : rising ids ≡ true → start ≤ first_not_below target ids → r ≡ scan target ids

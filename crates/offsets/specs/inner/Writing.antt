-- Ids written to an output, and the ends of a subset as an answer. Assumes nothing.
use Rattle.std.specs.Prelude.{◌≡◌, ℕ, List, [], ◌∷◌, length, Option, None, Some}
use Rattle.lists.specs.Lists.{splice}
use Rattle.offsets.specs.declared.Ends.{Ends}
use Rattle.offsets.specs.Subsets.{Subset, range, list, end_of}

-- ids are written to the start of an output, and n is their number
pub record Wrote (output ids : List ℕ) (n : ℕ) (output' : List ℕ) : Type 0 where
  pub number : n ≡ length ids
  pub cells : output' ≡ splice output 0 ids

-- "`bounds` gives the ends of a subset"; an empty list has none
unfoldable pub bounds : Subset → Option Ends
bounds (range start end) = Some (record { start = start; end = end })
bounds (list []) = None
bounds (list (x ∷ xs)) = Some (record { start = x; end = end_of (list (x ∷ xs)) })

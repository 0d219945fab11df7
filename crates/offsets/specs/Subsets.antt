-- Subsets (document 01, "Subsets"): well-formed ones, their members and ends, and `intersect` and `retain` with the Rust's forms.
-- Assumes nothing.
use Rattle.std.specs.Prelude.{ℕ, ◌+◌, ◌-◌, min, max, Bool, cond, ◌&&◌, List, [], ◌∷◌, length, nat_le, slice_index}
use Rattle.lists.specs.Lists.{filter, all, iota, rising, elem, within, same}

-- "A dense range start..end (end not included), or a strictly rising list of at most 65,536 u32 ids"
pub data Subset : Type 0 where
  range : ℕ → ℕ → Subset
  list : List ℕ → Subset

unfoldable pub well_formed : Subset → Bool
well_formed (range start end) = nat_le start end
well_formed (list ids) = rising ids && nat_le (length ids) 65536

-- the ids, which rise if the subset is well-formed
unfoldable pub members : Subset → List ℕ
members (range start end) = iota start (end - start)
members (list ids) = ids

unfoldable pub size : Subset → ℕ
size subset = length (members subset)

-- the end that test 5 compares with the row count: "range end or last id plus one"; 0 for an empty list
unfoldable pub end_of : Subset → ℕ
end_of (range start end) = end
end_of (list []) = 0
end_of (list (x ∷ xs)) = slice_index (x ∷ xs) (length xs) + 1

-- "a range with a list gives a list, or 0..0 if nothing is common"
unfoldable pub list_or_nothing : List ℕ → Subset
list_or_nothing [] = range 0 0
list_or_nothing (x ∷ xs) = list (x ∷ xs)

-- "two ranges give a range, and if they do not meet it starts and ends at the larger start; .. list first gives a list,
-- even an empty one"
unfoldable pub intersect : Subset → Subset → Subset
intersect (range a b) (range c d) = range (max a c) (max (max a c) (min b d))
intersect (range a b) (list ids) = list_or_nothing (filter (within a b) ids)
intersect (list ids) (range a b) = list (filter (within a b) ids)
intersect (list ids) (list others) = list (filter (λ id. elem id others) ids)

-- the kept ids of a range: "keeps a range while kept ids are neighbours, and 0..0 if none is"
unfoldable pub shaped : List ℕ → Subset
shaped [] = range 0 0
shaped (x ∷ xs) =
    let n = length (x ∷ xs) in
    cond (same (x ∷ xs) (iota x n)) (range x (x + n)) (list (x ∷ xs))

unfoldable pub retain : (ℕ → Bool) → Subset → Subset
retain test (range start end) = shaped (filter test (iota start (end - start)))
retain test (list ids) = list (filter test ids)

-- "a range stays only if all of it is kept, else a list"
unfoldable pub narrowed : (ℕ → Bool) → Subset → Subset
narrowed test subset = cond (all test (members subset)) subset (list (filter test (members subset)))

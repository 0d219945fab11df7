-- Subsets as arguments and as answers. Assumes nothing.
use Rattle.refusals.specs.declared.Refusal.{Refusal}
use Rattle.std.specs.Prelude.{◌≡◌, ℕ, ◌≤◌, cond, not, ◌||◌, List, [], ◌∷◌, length, take, nat_lt, Result, Ok, Err}
use Rattle.lists.specs.Lists.{splice}
use Rattle.refusals.specs.Refusals.{check, first_refusal, Reply, refused, accepted, reply, number}
use Rattle.offsets.specs.declared.Subset.{Subset as Borrowed}
use Rattle.offsets.specs.declared.Subset.TheVariants as borrowed
use Rattle.offsets.specs.declared.SubsetRef.{SubsetRef}
use Rattle.offsets.specs.declared.SubsetForm.{SubsetForm}
use Rattle.offsets.specs.declared.SubsetForm.TheVariants.{Range, List as Ids}
use Rattle.offsets.specs.Subsets.{Subset, range, list, well_formed, intersect}

-- a borrowed subset
unfoldable pub subset_of : Borrowed → Subset
subset_of (borrowed.Range start end) = range start end
subset_of (borrowed.List ids) = list ids.now

-- a borrowed subset as C lends it: "its kind, its two ends and the caller's list of ids"
unfoldable pub lent_subset : SubsetRef → Subset
lent_subset lent = cond lent.dense (range lent.start lent.end) (list lent.ids.now)

-- an answer decoded by its caller: refused, a range, or the first ids of the output
unfoldable pub subset_view : Result SubsetForm Refusal → List ℕ → Reply Subset
subset_view (Err refusal) output = refused (number refusal)
subset_view (Ok (Range start end)) output = accepted (range start end)
subset_view (Ok (Ids n)) output = accepted (list (take n output))

-- the ids that a reply writes: "A range as answer writes no id"
unfoldable pub written : Reply Subset → List ℕ
written (refused n) = []
written (accepted (range start end)) = []
written (accepted (list ids)) = ids

-- The answer and the output hold the reply: decoded by `subset_view` they are the reply, a list's ids all lie in the output, and "output
-- beyond the ids written is unchanged".
pub record Answered (r : Reply Subset) (output : List ℕ) (answer : Result SubsetForm Refusal) (output' : List ℕ) : Type 0 where
  pub answers : subset_view answer output' ≡ r
  pub inside : (n : ℕ) → answer ≡ Ok (Ids n) → n ≤ length output'
  pub writes : output' ≡ splice output 0 (written r)

-- the output length that `intersect` needs: "output shorter than the first list, or than the second where the first is a range"
unfoldable pub room_needed : Subset → Subset → ℕ
room_needed (range a b) (range c d) = 0
room_needed (range a b) (list ids) = length ids
room_needed (list ids) other = length ids

-- *Intersect*: "4 for either; 2"
unfoldable pub intersect_refusal : Subset → Subset → ℕ → ℕ
intersect_refusal a b output =
    first_refusal (check (not (well_formed a) || not (well_formed b)) 4 ∷ check (nat_lt output (room_needed a b)) 2 ∷ [])

unfoldable pub intersect_reply : Subset → Subset → ℕ → Reply Subset
intersect_reply a b output = reply (intersect_refusal a b output) (intersect a b)

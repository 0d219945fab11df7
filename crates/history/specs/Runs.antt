-- Runs of queries (the order, term 3): "take any starting subset and any list of steps. A step refines by a condition or by a list
-- of them (an empty one will do), or intersects with a subset of ours or a condition's sort-column range; each works on the ids
-- that the last accepted one left, and a refused one counts for nothing". Assumes nothing.
use Rattle.sort_entries.specs.declared.Range.{Range}
use Rattle.refusals.specs.declared.Refusal.{Refusal}
use Rattle.std.specs.Prelude.{ℕ, ◌≡◌, Bool, true, false, ◌⊎◌, List, [], ◌∷◌, ◌++◌, length, take, Result, Option as Optional}
use Rattle.std.proofs.Math.Option.{some}
use Rattle.query_spec.specs.Queries.{RefinedOne, RefinedList}
use Rattle.refusals.specs.Refusals.{Reply, accepted, if_accepted}
use Rattle.offsets.specs.declared.SubsetForm.{SubsetForm}
use Rattle.offsets.specs.Subsets.{Subset, members}
use Rattle.offsets.specs.Answers.{Answered, subset_view, intersect_reply}
use Rattle.constraints.specs.declared.Constraint.{Constraint}
use Rattle.table.specs.Numbers.{range_view}
use Rattle.table.specs.Outcomes.{Stores, RangeRead}

pub data Query : Type 0 where
  refine_one : Constraint → Query
  refine_list : List Constraint → Query
  intersect_with : Subset → Query
  intersect_range : Constraint → Query

-- whether the query is a step that "refines"
unfoldable pub refines : Query → Bool
refines (refine_one c) = true
refines (refine_list cs) = true
refines (intersect_with b) = false
refines (intersect_range c) = false

-- the ids left, and the queries that were accepted
pub record Outcome : Type 0 where
  pub ids : Subset
  pub accepted : List Query

abbrev pub outcome : Subset → List Query → Outcome
outcome ids counted = record { ids = ids; accepted = counted }

-- the result of a query, by its reply: a refused one leaves the ids unchanged and counts for nothing
unfoldable pub by_reply : Subset → Query → Reply Subset → Outcome
by_reply a q r = if_accepted r (λ subset. outcome subset (q ∷ [])) (outcome a [])

-- `intersect` takes the two subsets in either order
abbrev pub Intersected : Subset → Subset → List ℕ → Result SubsetForm Refusal → List ℕ → Type 0
Intersected a b output answer output' =
    Answered (intersect_reply a b (length output)) output answer output'
    ⊎ Answered (intersect_reply b a (length output)) output answer output'

-- One query on a table, on the current ids. Each query has its own output and is lent the first `lent` cells of a store, or the
-- whole store if it is shorter. So a query may be refused because its part is too short, and the next be lent more. Where the fast
-- range is none, "the step and its condition count for nothing", like a refused one.
pub data Queried (s : Stores) (a : Subset) : Query → Outcome → Type 0 where
  one_refined : (c : Constraint) (lent : ℕ) (output output' : List ℕ) (answer : Result SubsetForm Refusal)
      → RefinedOne s.header (take lent s.rows) a c output answer output'
      → Queried s a (refine_one c) (by_reply a (refine_one c) (subset_view answer output'))
  list_refined : (cs : List Constraint) (lent : ℕ) (output output' : List ℕ) (answer : Result SubsetForm Refusal)
      → RefinedList s.header (take lent s.rows) a cs output answer output'
      → Queried s a (refine_list cs) (by_reply a (refine_list cs) (subset_view answer output'))
  intersected : (b : Subset) (output output' : List ℕ) (answer : Result SubsetForm Refusal) → Intersected a b output answer output'
      → Queried s a (intersect_with b) (by_reply a (intersect_with b) (subset_view answer output'))
  range_intersected : (b : Subset) (c : Constraint) (lent : ℕ) (range : Result (Optional Range) Refusal) (output output' : List ℕ) (answer : Result SubsetForm Refusal)
      → RangeRead s.header (take lent s.sorts) c range → range_view range ≡ accepted (some b)
      → Intersected a b output answer output'
      → Queried s a (intersect_range c) (by_reply a (intersect_range c) (subset_view answer output'))
  range_nothing : (c : Constraint) (lent : ℕ) (range : Result (Optional Range) Refusal)
      → RangeRead s.header (take lent s.sorts) c range → ((b : Subset) → range_view range ≡ accepted (some b) → ⊥)
      → Queried s a (intersect_range c) (outcome a [])

-- The queries in order, and those that were accepted. Each query may take any subset with the current ids, a range or a list: a
-- caller may copy the ids from one form into the other.
pub data Run (s : Stores) : Subset → List Query → Subset → List Query → Type 0 where
  end : (a : Subset) → Run s a [] a []
  next : {a b c : Subset} {q : Query} {o : Outcome} {qs rest : List Query}
      → Queried s a q o → members b ≡ members o.ids → Run s b qs c rest → Run s a (q ∷ qs) c (o.accepted ++ rest)

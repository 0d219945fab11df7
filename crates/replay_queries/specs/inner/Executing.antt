-- One query at a time. Assumes nothing.
use Rattle.refusals.specs.declared.Refusal.{Refusal}
use Rattle.std.specs.Prelude.{ℕ, ◌+◌, ◌≤◌, ◌<◌, ◌≡◌, Bool, true, false, cond, ◌||◌, List, [], ◌∷◌, length, take, eqb, Result, Ok, Err}
use Rattle.lists.specs.Lists.{any}
use Rattle.offsets.specs.declared.SubsetForm.{SubsetForm}
use Rattle.offsets.specs.declared.SubsetForm.TheVariants.{Range, List as Ids}
use Rattle.offsets.specs.Subsets.{Subset}
use Rattle.constraints.specs.declared.Constraint.{Constraint}
use Rattle.table.specs.declared.Header.{Header}
use Rattle.history.specs.Runs.{Query, intersect_range, refines, outcome}
use Rattle.replay_queries.specs.declared.RunAnswer.{RunAnswer}
use Rattle.replay_queries.specs.Encoding.{list_of}
use Rattle.replay_queries.specs.Outcomes.{QueriedAll, ids_at, subset_left}

-- the ids left in a lent list are within the length used
abbrev pub Inside : RunAnswer → ℕ → Type 0
Inside l output = (l.place ≤ 2) × (l.count ≤ cond (eqb l.place 0) 0 output)

-- one more query, which has no effect
abbrev pub counted : RunAnswer → RunAnswer
counted l =
    record { dense = l.dense; start = l.start; end = l.end; count = l.count; place = l.place; refined = l.refined; taken = l.taken + 1 }

-- the ids left after an answer whose output went to the list of this place
unfoldable pub apply_answer : RunAnswer → ℕ → Bool → Result SubsetForm Refusal → RunAnswer
apply_answer l place refines (Err r) = counted l
apply_answer l place refines (Ok (Range start end)) =
    record { dense = true; start = start; end = end; count = 0; place = 0; refined = refines || l.refined; taken = l.taken + 1 }
apply_answer l place refines (Ok (Ids n)) =
    record { dense = false; start = 0; end = 0; count = n; place = place; refined = refines || l.refined; taken = l.taken + 1 }

-- no query or one, run on a subset, with its output in the list of a place
module _ (h : Header) (rows sorts : List ℕ) (a : Subset) (queries : List Query) (l : RunAnswer) (place : ℕ) (output : List ℕ) (l' : RunAnswer) (output' : List ℕ) where
  pub record Executed : Type 0 where
    pub ids : Subset
    pub accepted : List Query
    pub queried : QueriedAll h rows sorts (length output) a queries (outcome ids accepted)
    pub refined_is : l'.refined ≡ (l.refined || any refines accepted)
    pub taken : l'.taken ≡ l.taken + length queries
    pub few : l'.taken ≤ l.taken + 1
    -- the ids written are within the output
    pub fits : 0 < place → place ≤ 2 → Inside l (length output) → Inside l' (length output)
    -- and the answer refers to that output
    pub there : (given first second : List ℕ) → ((n : ℕ) → ids_at place n given first second ≡ take n output')
        → subset_left l given first second ≡ a → subset_left l' given first second ≡ ids

-- refining by a list, which reads no sort entry
pub record ListExecuted (h : Header) (rows : List ℕ) (a : Subset) (words : List ℕ) (l : RunAnswer) (place : ℕ) (output : List ℕ) (l' : RunAnswer) (output' : List ℕ) : Type 0 where
  pub execute : (sorts : List ℕ) → Executed h rows sorts a (list_of words) l place output l' output'

-- a range step, which reads no row
pub record RangeExecuted (h : Header) (sorts : List ℕ) (a : Subset) (c : Constraint) (l : RunAnswer) (place : ℕ) (output : List ℕ) (l' : RunAnswer) (output' : List ℕ) : Type 0 where
  pub execute : (rows : List ℕ) → Executed h rows sorts a (intersect_range c ∷ []) l place output l' output'

-- Contract of `run_queries`: a list of queries, run one after another on the ids that the last accepted one left. That it is a run, for
-- which the claim of the order's term 3 holds, is a law (Laws/Claimed). Assumes nothing.
use Rattle.std.specs.Prelude.{ℕ, ◌≤◌, min, ◌≡◌, cond, List, length, eqb}
use Rattle.table.specs.Outcomes.{SamePast}
use Rattle.lists.specs.Lists.{any}
use Rattle.offsets.specs.Subsets.{Subset}
use Rattle.table.specs.declared.Header.{Header}
use Rattle.history.specs.Runs.{Query, refines, outcome}
use Rattle.replay_queries.specs.declared.RunAnswer.{RunAnswer}
use Rattle.replay_queries.specs.Outcomes.{subset_left, QueriedAll}

-- both lent lists are used up to the length of the shorter: the number of ids that each query has room for
abbrev pub shorter : List ℕ → List ℕ → ℕ
shorter first second = min (length first) (length second)

-- on a header with its row store and sort entries, from a starting subset, which is a range or these ids
module _ (h : Header) (rows sorts : List ℕ) (start : Subset) (ids : List ℕ) (queries : List Query) (first second : List ℕ) (answer : RunAnswer) (first' second' : List ℕ) where
  pub record RunMade : Type 0 where
    -- a caller who knows the number of queries in the list can check that the whole list was decoded
    pub taken : answer.taken ≡ length queries
    -- the queries that were accepted, and whether some of them refined
    pub accepted : List Query
    pub refined_is : answer.refined ≡ any refines accepted
    -- If the ids left are a list: which one; 0 is the whole starting list, with the count 0; ids in a lent list are within the length
    -- used. Of a range, place and count mean nothing.
    pub inside : (answer.place ≤ 2) × (answer.count ≤ cond (eqb answer.place 0) 0 (shorter first second))
    -- these and the ids left are the result of the queries, whatever the stores contain
    pub queried : QueriedAll h rows sorts (shorter first second) start queries (outcome (subset_left answer ids first' second') accepted)
    -- past that length nothing is written; which list has the ids left, and what else is in both, is the program's choice
    pub past : SamePast (shorter first second) first first' × SamePast (shorter first second) second second'

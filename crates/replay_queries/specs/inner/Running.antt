-- Queries run on the ids left, in two lists of one length. Assumes nothing.
use Rattle.std.specs.Prelude.{ℕ, ◌+◌, ◌≤◌, ◌≡◌, ◌||◌, List, length}
use Rattle.lists.specs.Lists.{any}
use Rattle.table.specs.declared.Header.{Header}
use Rattle.history.specs.Runs.{Query, refines, outcome}
use Rattle.replay_queries.specs.declared.RunAnswer.{RunAnswer}
use Rattle.replay_queries.specs.Outcomes.{subset_left, QueriedAll}
use Rattle.replay_queries.specs.inner.Executing.{Inside}

module _ (h : Header) (rows sorts ids : List ℕ) (queries : List Query) (l : RunAnswer) (first second : List ℕ) (l' : RunAnswer) (first' second' : List ℕ) where
  pub record QueriesExecuted : Type 0 where
    pub accepted : List Query
    pub queried : QueriedAll h rows sorts (length first) (subset_left l ids first second) queries (outcome (subset_left l' ids first' second') accepted)
    pub refined_is : l'.refined ≡ (l.refined || any refines accepted)
    pub taken : l'.taken ≡ l.taken + length queries
    -- the ids left are within their list
    pub fits : Inside l' (length first)

  -- no query or one
  pub record QueryExecuted : Type 0 where
    pub execute : QueriesExecuted
    pub few : l'.taken ≤ l.taken + 1

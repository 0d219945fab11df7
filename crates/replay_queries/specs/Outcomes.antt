-- The ids left, as an answer encodes them; and the result of a list of queries, each run on the subset that the last accepted query
-- returned, with an output of this many ids. Assumes nothing.
use Rattle.sort_entries.specs.declared.Range.{Range}
use Rattle.refusals.specs.declared.Refusal.{Refusal}
use Rattle.std.specs.Prelude.{ℕ, ◌≡◌, cond, List, [], ◌∷◌, ◌++◌, take, eqb, Result, Option as Optional}
use Rattle.std.proofs.Math.Option.{Option, none, Option-elim}
use Rattle.refusals.specs.Refusals.{Reply, if_accepted}
use Rattle.offsets.specs.Subsets.{Subset, range, list}
use Rattle.offsets.specs.Answers.{intersect_reply}
use Rattle.constraints.specs.declared.Constraint.{Constraint}
use Rattle.table.specs.declared.Header.{Header}
use Rattle.table.specs.Numbers.{range_view}
use Rattle.table.specs.Outcomes.{RangeRead}
use Rattle.query_spec.specs.Queries.{refine_one_reply, refine_list_reply}
use Rattle.history.specs.Runs.{Query, refine_one, refine_list, intersect_with, intersect_range, Outcome, outcome, by_reply}
use Rattle.replay_queries.specs.declared.RunAnswer.{RunAnswer}

-- the first ids of the list of a place: 1 and 2 are the two lent lists; any other place, in an answer 0, is the whole
-- starting list
unfoldable pub ids_at : ℕ → ℕ → List ℕ → List ℕ → List ℕ → List ℕ
ids_at place count ids first second = cond (eqb place 1) (take count first) (cond (eqb place 2) (take count second) ids)

-- the ids left: a range, or else these
abbrev pub left_in : RunAnswer → List ℕ → Subset
left_in l ids = cond l.dense (range l.start l.end) (list ids)

unfoldable pub subset_left : RunAnswer → List ℕ → List ℕ → List ℕ → Subset
subset_left l ids first second = left_in l (ids_at l.place l.count ids first second)

-- One query, with a fast range that only a range step uses: without one, the step has no effect. The ids left are the first argument
-- of `intersect`.
module _ (h : Header) (rows : List ℕ) (output : ℕ) where
  unfoldable pub queried : Subset → Query → Reply (Option Subset) → Outcome
  queried a (refine_one c) found = by_reply a (refine_one c) (refine_one_reply h rows a c output)
  queried a (refine_list cs) found = by_reply a (refine_list cs) (refine_list_reply h rows a cs output)
  queried a (intersect_with b) found = by_reply a (intersect_with b) (intersect_reply a b output)
  queried a (intersect_range c) found =
      Option-elim (if_accepted found (λ range. range) none) (outcome a []) (λ b. by_reply a (intersect_range c) (intersect_reply a b output))

-- the queries, in order; each range step has the result of `fast_subset` for its condition
pub data QueriedAll (h : Header) (rows sorts : List ℕ) (output : ℕ) : Subset → List Query → Outcome → Type 0 where
  end : (a : Subset) → QueriedAll h rows sorts output a [] (outcome a [])
  next : {a : Subset} {q : Query} {qs : List Query} {rest : Outcome} (range : Result (Optional Range) Refusal)
      → ((c : Constraint) → q ≡ intersect_range c → RangeRead h sorts c range)
      → QueriedAll h rows sorts output (queried h rows output a q (range_view range)).ids qs rest
      → QueriedAll h rows sorts output a (q ∷ qs) (outcome rest.ids ((queried h rows output a q (range_view range)).accepted ++ rest.accepted))

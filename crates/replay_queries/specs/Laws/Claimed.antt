-- The result of `run_queries` is that of a run, so the claim of the order's term 3 holds for it; and if the sort entries are sound, it is
-- determined by the stores and the queries alone. Assumes nothing.
use Rattle.sort_entries.specs.declared.Range.{Range}
use Rattle.refusals.specs.declared.Refusal.{Refusal}
use Rattle.std.specs.Prelude.{◌≡◌, ◌∷◌, ◌++◌, Result, Option as Optional}
use Rattle.replay_queries.specs.Laws.Prelude.{ℕ, refl, sym, ◌∙◌, inl, inr, true, Option, none, some, List, [], arith, length, replicate, length-replicate, take-length, filter, rising, Reply, refused, accepted, reply, some_number, ruled_refused, Constraint, entries_of, entries_sound, Opening, LentCall, Header, range_view, fast_refusal, Stores, stores, fast_subset, RangeRead, reply_refused, reply_accepted, History, wanted, by_reply_given, refine_given, term_three, RunAnswer, shorter, RunMade}
use Rattle.std.proofs.Math.Option.{Option-elim}
use Rattle.refusals.specs.Refusals.{if_accepted}
use Rattle.offsets.specs.Subsets.{Subset, members}
use Rattle.offsets.specs.Laws.Answers.{intersect_given, intersect_replies}
use Rattle.query_spec.specs.Queries.{refine_one_reply, refine_list_reply}
use Rattle.history.specs.Runs.{Query, refine_one, refine_list, intersect_with, intersect_range, Queried, one_refined, list_refined, intersected, range_intersected, range_nothing, Run, end as run_end, next as run-next, Outcome, outcome}
use Rattle.replay_queries.specs.Outcomes.{subset_left, queried, QueriedAll, end, next}

-- ---- a run

module _ (h : Header) (rows keys sorts pending : List ℕ) (room : ℕ) where
  abbrev table : Stores
  table = stores h rows keys sorts pending

  -- each query has an output of this length
  abbrev output : List ℕ
  output = replicate room 0

  long : length output ≡ room
  long = length-replicate room 0

  range_queried : (a : Subset) (c : Constraint) (range : Result (Optional Range) Refusal) (found : Reply (Option Subset)) → RangeRead h sorts c range → range_view range ≡ found
      → Queried table a (intersect_range c) (queried h rows room a (intersect_range c) found)
  unfolding queried Option-elim if_accepted
  range_queried a c range (refused n) read e =
      range_nothing c (length sorts) range (rw (take-length sorts) read) (λ b f. absurd (let z : ◌≡◌ {A = ℕ} 0 1 = cc in omega arith))
  range_queried a c range (accepted none) read e =
      range_nothing c (length sorts) range (rw (take-length sorts) read) (λ b f. absurd (let z : ◌≡◌ {A = ℕ} 0 1 = cc in omega arith))
  range_queried a c range (accepted (some b)) read e =
      rw (intersect_replies a b room)
      (by_reply_given a (intersect_range c) _ _ output (intersect_given a b room) (λ output' answer m. range_intersected b c (length sorts) range output output' answer (rw (take-length sorts) read) e (inl (rw (long, intersect_replies a b room) m))))

  -- each query is lent both whole stores
  one_queried : (a : Subset) (q : Query) (range : Result (Optional Range) Refusal) → ((c : Constraint) → q ≡ intersect_range c → RangeRead h sorts c range)
      → Queried table a q (queried h rows room a q (range_view range))
  unfolding queried refine_one_reply refine_list_reply
  one_queried a (refine_one c) range read =
      by_reply_given a (refine_one c) _ _ output (refine_given h (length rows) a (c ∷ []) room) (λ output' answer m. one_refined c (length rows) output output' answer (record { answered = rw (take-length rows, long) m }))
  one_queried a (refine_list cs) range read =
      by_reply_given a (refine_list cs) _ _ output (refine_given h (length rows) a cs room) (λ output' answer m. list_refined cs (length rows) output output' answer (record { answered = rw (take-length rows, long) m }))
  one_queried a (intersect_with b) range read =
      rw (intersect_replies a b room)
      (by_reply_given a (intersect_with b) _ _ output (intersect_given a b room) (λ output' answer m. intersected b output output' answer (inl (rw (long, intersect_replies a b room) m))))
  one_queried a (intersect_range c) range read = range_queried a c range (range_view range) (read c refl) refl

  pub queried_run : {a : Subset} {qs : List Query} {o : Outcome} → QueriedAll h rows sorts room a qs o → Run table a qs o.ids o.accepted
  queried_run (end a) = run_end a
  queried_run {a} (next {q = q} range read rest) = run-next (one_queried a q range read) refl (queried_run rest)

-- ---- sound sort entries

module _ (h : Header) (rows sorts : List ℕ) (room : ℕ) where
  -- the fast range of a range step; only the case of a range step uses it
  unfoldable pub fast_range_for : Query → Reply (Option Subset)
  fast_range_for (refine_one c) = accepted none
  fast_range_for (refine_list cs) = accepted none
  fast_range_for (intersect_with b) = accepted none
  fast_range_for (intersect_range c) = reply (fast_refusal h (length sorts) c) (fast_subset h sorts c)

  -- the result of the queries, each range step by its fast range
  unfoldable pub queried_all : Subset → List Query → Outcome
  queried_all a [] = outcome a []
  queried_all a (q ∷ qs) =
      let one = queried h rows room a q (fast_range_for q) in
      let more = queried_all one.ids qs in
      outcome more.ids (one.accepted ++ more.accepted)

  module _ (sound : entries_sound (entries_of h.entries sorts) h.rows ≡ true) where
    range_known : (c : Constraint) (range : Result (Optional Range) Refusal) → RangeRead h sorts c range → range_view range ≡ reply (fast_refusal h (length sorts) c) (fast_subset h sorts c)
    range_known c range read =
        let n = fast_refusal h (length sorts) c in
        elim (some_number n) [
          | inl e ↦ read.table e sound ∙ sym (reply_accepted n _ e)
          | inr more ↦ ruled_refused (range_view range) n read.refusal more ∙ sym (reply_refused n _ more)
        ]

    one_known : (a : Subset) (q : Query) (range : Result (Optional Range) Refusal) → ((c : Constraint) → q ≡ intersect_range c → RangeRead h sorts c range)
        → queried h rows room a q (range_view range) ≡ queried h rows room a q (fast_range_for q)
    unfolding queried fast_range_for
    one_known a (refine_one c) range read = refl
    one_known a (refine_list cs) range read = refl
    one_known a (intersect_with b) range read = refl
    one_known a (intersect_range c) range read = rw (range_known c range (read c refl))

    pub queried_known : {a : Subset} {qs : List Query} {o : Outcome} → QueriedAll h rows sorts room a qs o → o ≡ queried_all a qs
    unfolding queried_all
    queried_known (end a) = refl
    queried_known {a} (next {q = q} range read rest) = rw (queried_known rest, one_known a q range read)

-- ---- the result of `run_queries`

module _ {h : Header} {rows sorts : List ℕ} {start : Subset} {ids : List ℕ} {queries : List Query} {first second : List ℕ} {answer : RunAnswer} {first' second' : List ℕ} (m : RunMade h rows sorts start ids queries first second answer first' second') where
  -- it is a run, whatever the key store and the pending store contain
  pub made_run : (keys pending : List ℕ) → Run (stores h rows keys sorts pending) start queries (subset_left answer ids first' second') m.accepted
  made_run keys pending = queried_run h rows keys sorts pending (shorter first second) m.queried

  -- "If some accepted step refines, the ids left .. are exactly the live rows of the starting subset that ..", "rising,
  -- each once"
  pub made_ids_left : (o : Opening) (generation : ℕ) (calls : List LentCall) (keys pending : List ℕ) → History o generation calls (stores h rows keys sorts pending) → answer.refined ≡ true
      → (members (subset_left answer ids first' second') ≡ filter (wanted (stores h rows keys sorts pending) m.accepted) (members start))
      × (rising (members (subset_left answer ids first' second')) ≡ true)
  made_ids_left o generation calls keys pending history refined =
      (term_three o generation calls _ history).ids_left start queries _ m.accepted (made_run keys pending) (sym m.refined_is ∙ refined)

  -- if the sort entries are sound, the ids left and the accepted queries are these
  pub made_leaves : entries_sound (entries_of h.entries sorts) h.rows ≡ true
      → outcome (subset_left answer ids first' second') m.accepted ≡ queried_all h rows sorts (shorter first second) start queries
  made_leaves sound = queried_known h rows sorts (shorter first second) sound m.queried

-- The ways out of each function of lib.rt. Assumes nothing.
use Rattle.refusals.specs.declared.Refusal.{Refusal}
use Rattle.std.specs.Prelude.{Result, Ok, Err, Some, None, Option as Optional}
use Prim.Native.Nat.{ℕ, ◌+◌, ◌*◌, ◌/◌, ◌≤◌, ◌<◌}
use mathlib.Core.Path.{◌≡◌, refl}
use mathlib.Core.Bool.{Bool, true, false, ◌||◌}
use mathlib.Core.Option.{Option-elim}
use mathlib.Core.List.{List}
use lib.ListN.{length, take, get_or}
use Rattle.refusals.specs.Refusals.{if_accepted}
use Rattle.offsets.specs.declared.SubsetForm.{SubsetForm}
use Rattle.offsets.specs.declared.SubsetForm.TheVariants.{Range, List as Ids}
use Rattle.offsets.specs.Subsets.{Subset, range, list}
use Rattle.offsets.specs.Answers.{Answered, intersect_reply}
use Rattle.constraints.specs.declared.Constraint.{Constraint}
use Rattle.constraints.specs.Encoding.{condition_in, conditions_in}
use Rattle.sort_entries.specs.declared.Range.{Range as Rows}
use Rattle.table.specs.declared.Header.{Header}
use Rattle.table.specs.Numbers.{range_view}
use Rattle.table.specs.Outcomes.{RangeRead}
use Rattle.query_spec.specs.Queries.{RefinedOne, RefinedList}
use Rattle.replay_queries.specs.declared.RunAnswer.{RunAnswer}
use Rattle.replay_queries.specs.Encoding.{query_of}
use Rattle.replay_queries.specs.Outcomes.{queried}
use Rattle.replay_queries.specs.inner.Executing.{counted, apply_answer, Executed, ListExecuted, RangeExecuted}
use Rattle.replay_queries.specs.Laws.Encoding.{list_whole, list_cut, list_long, query_one, query_list, query_ids, query_ends, query_range, no_one, no_ends, no_range, no_kind}
use Rattle.replay_queries.specs.Laws.Executing.{execute_nothing, execute_no_range, put_refined, put_refined_list, put_intersected, put_ranged}

-- ---- `apply_answer`

module _ (l : RunAnswer) (place : ℕ) (refines : Bool) (answer : Result SubsetForm Refusal) where
  pub left_refused : (refusal : Refusal) {r : RunAnswer} → r ≡ counted l → answer ≡ Err refusal → r ≡ apply_answer l place refines answer
  unfolding apply_answer
  left_refused refusal same e = rw (e, same)

  pub left_range : (start end : ℕ) (refined : Bool) → refined ≡ (refines || l.refined) → answer ≡ Ok (Range start end)
      → record { dense = true; start = start; end = end; count = 0; place = 0; refined = refined; taken = l.taken + 1 } ≡ apply_answer l place refines answer
  unfolding apply_answer
  left_range from to refined q e = rw (e, q)

  pub left_list : (n : ℕ) (refined : Bool) → refined ≡ (refines || l.refined) → answer ≡ Ok (Ids n)
      → record { dense = false; start = 0; end = 0; count = n; place = place; refined = refined; taken = l.taken + 1 } ≡ apply_answer l place refines answer
  unfolding apply_answer
  left_list n refined q e = rw (e, q)

-- ---- `execute_range`

module _ {h : Header} {sorts : List ℕ} {c : Constraint} {found : Result (Optional Rows) Refusal} {a : Subset} {l l' : RunAnswer} {place : ℕ} {output : List ℕ} (read : RangeRead h sorts c found) where
  pub range_refused : (r : Refusal) → found ≡ Err r → l' ≡ counted l → RangeExecuted h sorts a c l place output l' output
  unfolding range_view queried Option-elim if_accepted
  range_refused r e same = record { execute = λ rows. execute_no_range refl read (rw e) same }

  pub range_none : found ≡ Ok None → l' ≡ counted l → RangeExecuted h sorts a c l place output l' output
  unfolding range_view queried Option-elim if_accepted
  range_none e same = record { execute = λ rows. execute_no_range refl read (rw e) same }

  pub range_found : (r : Rows) {answer : Result SubsetForm Refusal} {output' : List ℕ} → found ≡ Ok (Some r)
      → Answered (intersect_reply a (range r.start r.end) (length output)) output answer output'
      → l' ≡ apply_answer l place false answer → RangeExecuted h sorts a c l place output l' output'
  unfolding range_view
  range_found r e m same = record { execute = λ rows. put_ranged (range r.start r.end) refl read (rw e) m same }

-- ---- `execute_list`

module _ {h : Header} {rows : List ℕ} {a : Subset} (cells : List ℕ) {l : RunAnswer} {place : ℕ} {output : List ℕ} where
  pub listed_cut : (length cells / 3 * 3 ≡ length cells → ⊥) → ListExecuted h rows a cells l place output l output
  listed_cut n = record { execute = λ sorts. execute_nothing (list_cut cells n) refl }

  pub listed_long : length cells / 3 * 3 ≡ length cells → 16 < length cells / 3 → ListExecuted h rows a cells l place output l output
  listed_long e m = record { execute = λ sorts. execute_nothing (list_long cells e m) refl }

  pub listed_whole : {l' : RunAnswer} (conditions : List Constraint) {answer : Result SubsetForm Refusal} {output' : List ℕ} → length cells / 3 * 3 ≡ length cells → length cells / 3 ≤ 16
      → take (length cells / 3) conditions ≡ conditions_in (length cells / 3) cells → RefinedList h rows a (take (length cells / 3) conditions) output answer output'
      → l' ≡ apply_answer l place true answer → ListExecuted h rows a cells l place output l' output'
  listed_whole conditions e m same refined left = record { execute = λ sorts. put_refined_list (list_whole cells e m) (rw same at refined) left }

-- ---- `execute`

module _ {h : Header} {rows sorts : List ℕ} {a : Subset} (kind : ℕ) (cells : List ℕ) {l : RunAnswer} {place : ℕ} {output : List ℕ} where
  pub execute_short : kind ≡ 0 → (length cells ≡ 3 → ⊥) → Executed h rows sorts a (query_of kind cells) l place output l output
  execute_short e n = execute_nothing (no_one kind cells e n) refl

  pub execute_short_range : kind ≡ 4 → (length cells ≡ 3 → ⊥) → Executed h rows sorts a (query_of kind cells) l place output l output
  execute_short_range e n = execute_nothing (no_range kind cells e n) refl

  pub execute_short_ends : kind ≡ 3 → (length cells ≡ 2 → ⊥) → Executed h rows sorts a (query_of kind cells) l place output l output
  execute_short_ends e n = execute_nothing (no_ends kind cells e n) refl

  pub execute_none : 4 < kind → Executed h rows sorts a (query_of kind cells) l place output l output
  execute_none m = execute_nothing (no_kind kind cells m) refl

  pub execute_list : {l' : RunAnswer} {output' : List ℕ} → kind ≡ 1 → ListExecuted h rows a cells l place output l' output' → Executed h rows sorts a (query_of kind cells) l place output l' output'
  execute_list e m = rw (query_list kind cells e) (m.execute sorts)

  pub execute_fast : {l' : RunAnswer} {output' : List ℕ} → kind ≡ 4 → length cells ≡ 3 → {c : Constraint} → c ≡ condition_in cells 0 → RangeExecuted h sorts a c l place output l' output'
      → Executed h rows sorts a (query_of kind cells) l place output l' output'
  execute_fast e n same m = rw (query_range kind cells e n, ← same) (m.execute rows)

  module _ {l' : RunAnswer} {answer : Result SubsetForm Refusal} {output' : List ℕ} where
    pub put_ids : kind ≡ 2 → Answered (intersect_reply a (list cells) (length output)) output answer output'
        → l' ≡ apply_answer l place false answer → Executed h rows sorts a (query_of kind cells) l place output l' output'
    put_ids e m = put_intersected (list cells) (query_ids kind cells e) m

    pub put_ends : kind ≡ 3 → length cells ≡ 2 → Answered (intersect_reply a (range (get_or cells 0 0) (get_or cells 1 0)) (length output)) output answer output'
        → l' ≡ apply_answer l place false answer → Executed h rows sorts a (query_of kind cells) l place output l' output'
    put_ends e n m = put_intersected (range (get_or cells 0 0) (get_or cells 1 0)) (query_ends kind cells e n) m

    pub put_one : kind ≡ 0 → length cells ≡ 3 → {c : Constraint} → c ≡ condition_in cells 0 → RefinedOne h rows a c output answer output'
        → l' ≡ apply_answer l place true answer → Executed h rows sorts a (query_of kind cells) l place output l' output'
    put_one e n same m = put_refined (query_one kind cells e n) (rw same at m)

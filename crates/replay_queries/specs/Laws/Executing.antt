-- One query, run on the ids left. Assumes nothing.
use Rattle.sort_entries.specs.declared.Range.{Range as Rows}
use Rattle.refusals.specs.declared.Refusal.{Refusal}
use Rattle.std.specs.Prelude.{ℕ, ◌+◌, ◌≤◌, ◌<◌, Bool, true, false, ◌||◌, List, [], ◌∷◌, ◌++◌, length, take, Result, Ok, None, Option as Optional, Err}
use Rattle.std.proofs.Math.Path.{◌≡◌, refl, sym, ap}
use Rattle.std.proofs.Common.{◌∙◌, arith, ne_eqb}
use Rattle.std.proofs.Math.Option.{some, Option-elim}
use Rattle.lists.specs.Lists.{any}
use Rattle.refusals.specs.Refusals.{Reply, accepted, reply, if_accepted}
use Rattle.offsets.specs.declared.SubsetForm.{SubsetForm}
use Rattle.offsets.specs.declared.SubsetForm.TheVariants.{Range, List as Ids}
use Rattle.offsets.specs.Subsets.{Subset, list, retain, narrowed}
use Rattle.offsets.specs.Answers.{Answered, subset_view, written, intersect_reply}
use Rattle.offsets.specs.Laws.Answers.{read_refused, read_range, read_list, answered_fits, intersect_fits}
use Rattle.offsets.specs.Laws.Subsets.{members_retain, members_narrowed}
use Rattle.constraints.specs.declared.Constraint.{Constraint}
use Rattle.table.specs.declared.Header.{Header}
use Rattle.table.specs.Numbers.{range_view}
use Rattle.table.specs.Outcomes.{RangeRead}
use Rattle.query_spec.specs.Queries.{matches, refine_one_reply, refine_list_reply, RefinedOne, RefinedList}
use Rattle.history.specs.Runs.{Query, refine_one, refine_list, intersect_with, intersect_range, refines, Outcome, outcome, by_reply}
use Rattle.history.proofs.Laws.Narrowing.{or-false}
use Rattle.history.proofs.Laws.Queries.{refinable, refined_fit}
use Rattle.replay_queries.specs.declared.RunAnswer.{RunAnswer}
use Rattle.replay_queries.specs.Outcomes.{ids_at, subset_left, queried, QueriedAll, end, next}
use Rattle.replay_queries.specs.inner.Executing.{Inside, counted, apply_answer, Executed}

-- the result of queries after others that were accepted
abbrev pub behind : List Query → Outcome → Outcome
behind before o = outcome o.ids (before ++ o.accepted)

-- ---- the ids left by an answer

swapped : (a b : Bool) → (a || b) ≡ (b || (a || false))
swapped true true = refl
swapped true false = refl
swapped false true = refl
swapped false false = refl

-- an accepted answer refines if its query does; a refused one does not
left_refined : (l : RunAnswer) (a : Subset) (place : ℕ) (answer : Result SubsetForm Refusal) (output : List ℕ) (q : Query)
    → (apply_answer l place (refines q) answer).refined ≡ (l.refined || any refines ((by_reply a q (subset_view answer output)).accepted ++ []))
unfolding apply_answer by_reply if_accepted any
left_refined l a place (Err r) output q = rw (read_refused output r) (sym (or-false l.refined))
left_refined l a place (Ok (Range from to)) output q = rw (read_range output from to) (swapped (refines q) l.refined)
left_refined l a place (Ok (Ids n)) output q = rw (read_list output n) (swapped (refines q) l.refined)

left_taken : (l : RunAnswer) (place : ℕ) (refines : Bool) (answer : Result SubsetForm Refusal) → (apply_answer l place refines answer).taken ≡ l.taken + 1
unfolding apply_answer
left_taken l place refines (Err r) = refl
left_taken l place refines (Ok (Range from to)) = refl
left_taken l place refines (Ok (Ids n)) = refl

left_fits : (l : RunAnswer) (place : ℕ) (refines : Bool) (answer : Result SubsetForm Refusal) (room : ℕ) → ((n : ℕ) → answer ≡ Ok (Ids n) → n ≤ room) → 0 < place → place ≤ 2 → Inside l room
    → Inside (apply_answer l place refines answer) room
unfolding apply_answer
left_fits l place refines (Err r) room fits low high held = held
left_fits l place refines (Ok (Range from to)) room fits low high held = (omega arith, omega arith)
left_fits l place refines (Ok (Ids n)) room fits low high held = (high, rw (ne_eqb place 0 (λ e. omega arith)) (fits n refl))

left_there : (l : RunAnswer) (a : Subset) (q : Query) (place : ℕ) (refines : Bool) (answer : Result SubsetForm Refusal) (output given first second : List ℕ)
    → ((n : ℕ) → ids_at place n given first second ≡ take n output) → subset_left l given first second ≡ a
    → subset_left (apply_answer l place refines answer) given first second ≡ (by_reply a q (subset_view answer output)).ids
unfolding subset_left apply_answer by_reply if_accepted
left_there l a q place refines (Err r) output given first second there e = rw (read_refused output r) e
left_there l a q place refines (Ok (Range from to)) output given first second there e = rw (read_range output from to)
left_there l a q place refines (Ok (Ids n)) output given first second there e = rw (read_list output n) (ap list (there n))

-- ---- a query that is answered

-- the decoded answer is the reply
pub record Replied (r : Reply Subset) (output : List ℕ) (answer : Result SubsetForm Refusal) (output' : List ℕ) : Type 0 where
  pub is : subset_view answer output' ≡ r
  pub fits : (n : ℕ) → answer ≡ Ok (Ids n) → n ≤ length output

replied_to : (n : ℕ) (v : Subset) (output : List ℕ) (answer : Result SubsetForm Refusal) (output' : List ℕ) → Answered (reply n v) output answer output'
    → (n ≡ 0 → length (written (accepted v)) ≤ length output) → Replied (reply n v) output answer output'
replied_to n v output answer output' m fit =
    record { is = m.answers; fits = answered_fits n v output answer output' m fit }

one_replied : {h : Header} {rows : List ℕ} {a : Subset} {c : Constraint} {output : List ℕ} {answer : Result SubsetForm Refusal} {output' : List ℕ} → RefinedOne h rows a c output answer output'
    → Replied (refine_one_reply h rows a c (length output)) output answer output'
unfolding refine_one_reply
one_replied {h} {rows} {a} {c} {output} {answer} {output'} m =
    replied_to _ (retain (matches h rows (c ∷ [])) a) output answer output' m.answered
    (λ z. refined_fit a (length output) (refinable h (length rows) a (c ∷ []) (length output) z) _ _ (members_retain (matches h rows (c ∷ [])) a))

list_replied : {h : Header} {rows : List ℕ} {a : Subset} {cs : List Constraint} {output : List ℕ} {answer : Result SubsetForm Refusal} {output' : List ℕ} → RefinedList h rows a cs output answer output'
    → Replied (refine_list_reply h rows a cs (length output)) output answer output'
unfolding refine_list_reply
list_replied {h} {rows} {a} {cs} {output} {answer} {output'} m =
    replied_to _ (narrowed (matches h rows cs) a) output answer output' m.answered
    (λ z. refined_fit a (length output) (refinable h (length rows) a cs (length output) z) _ _ (members_narrowed (matches h rows cs) a))

intersection_replied : (a b : Subset) {output : List ℕ} {answer : Result SubsetForm Refusal} {output' : List ℕ} → Answered (intersect_reply a b (length output)) output answer output'
    → Replied (intersect_reply a b (length output)) output answer output'
intersection_replied a b {output} {answer} {output'} m = record { is = m.answers; fits = intersect_fits a b output answer output' m }

-- ---- running a query

-- a single query
queried_one : {h : Header} {rows sorts : List ℕ} {queries : List Query} (room : ℕ) (a : Subset) (q : Query) (range : Result (Optional Rows) Refusal) (o : Outcome) → queries ≡ q ∷ []
    → ((c : Constraint) → q ≡ intersect_range c → RangeRead h sorts c range) → queried h rows room a q (range_view range) ≡ o
    → QueriedAll h rows sorts room a queries (behind o.accepted (outcome o.ids []))
queried_one room a q range o e read same = rw (e, ← same) (next range read (end _))

module _ {h : Header} {rows sorts : List ℕ} {a : Subset} {queries : List Query} {l l' : RunAnswer} {place : ℕ} {output : List ℕ} where
  -- no query
  pub execute_nothing : queries ≡ [] → l' ≡ l → Executed h rows sorts a queries l place output l' output
  unfolding any
  execute_nothing e same =
      record {
        ids = a;
        accepted = [];
        queried = rw e (end a);
        refined_is = ap (λ (x : RunAnswer). x.refined) same ∙ sym (or-false l.refined);
        taken = rw (e, same) (omega arith);
        few = rw same (omega arith);
        fits = λ low high held. rw same held;
        there = λ given first second here is. rw same is;
      }

  -- a query and its reply
  module _ {answer : Result SubsetForm Refusal} {output' : List ℕ} where
    put_replied : (q : Query) (r : Reply Subset) (range : Result (Optional Rows) Refusal) → queries ≡ q ∷ [] → Replied r output answer output' → l' ≡ apply_answer l place (refines q) answer
        → ((c : Constraint) → q ≡ intersect_range c → RangeRead h sorts c range) → queried h rows (length output) a q (range_view range) ≡ by_reply a q r
        → Executed h rows sorts a queries l place output l' output'
    put_replied q r range e m same read known =
        record {
          ids = (by_reply a q (subset_view answer output')).ids;
          accepted = (by_reply a q (subset_view answer output')).accepted ++ [];
          queried = queried_one (length output) a q range (by_reply a q (subset_view answer output')) e read (rw m.is known);
          refined_is = rw same (left_refined l a place answer output' q);
          taken = rw (same, e) (left_taken l place (refines q) answer);
          few = rw same (omega (arith, left_taken l place (refines q) answer));
          fits = λ low high held. rw same (left_fits l place (refines q) answer (length output) m.fits low high held);
          there = λ given first second here is. rw same (left_there l a q place (refines q) answer output' given first second here is);
        }

    pub put_refined : {c : Constraint} → queries ≡ refine_one c ∷ [] → RefinedOne h rows a c output answer output' → l' ≡ apply_answer l place true answer
        → Executed h rows sorts a queries l place output l' output'
    unfolding queried refines
    put_refined {c} e m same =
        put_replied (refine_one c) _ (Ok None) e (one_replied m) same (λ d z. absurd (let n : ◌≡◌ {A = ℕ} 0 1 = cc in omega arith)) refl

    pub put_refined_list : {cs : List Constraint} → queries ≡ refine_list cs ∷ [] → RefinedList h rows a cs output answer output' → l' ≡ apply_answer l place true answer
        → Executed h rows sorts a queries l place output l' output'
    unfolding queried refines
    put_refined_list {cs} e m same =
        put_replied (refine_list cs) _ (Ok None) e (list_replied m) same (λ d z. absurd (let n : ◌≡◌ {A = ℕ} 0 1 = cc in omega arith)) refl

    pub put_intersected : (b : Subset) → queries ≡ intersect_with b ∷ [] → Answered (intersect_reply a b (length output)) output answer output' → l' ≡ apply_answer l place false answer
        → Executed h rows sorts a queries l place output l' output'
    unfolding queried refines
    put_intersected b e m same =
        put_replied (intersect_with b) _ (Ok None) e (intersection_replied a b m) same (λ d z. absurd (let n : ◌≡◌ {A = ℕ} 0 1 = cc in omega arith)) refl

    pub put_ranged : (b : Subset) {c : Constraint} {found : Result (Optional Rows) Refusal} → queries ≡ intersect_range c ∷ [] → RangeRead h sorts c found
        → range_view found ≡ accepted (some b) → Answered (intersect_reply a b (length output)) output answer output' → l' ≡ apply_answer l place false answer
        → Executed h rows sorts a queries l place output l' output'
    unfolding queried Option-elim if_accepted refines
    put_ranged b {c} {found} e read is m same =
        put_replied (intersect_range c) _ found e (intersection_replied a b m) same (λ d z. let k : c ≡ d = cc in rw (← k) read) (rw is)

  -- there is no range, and the step has no effect
  pub execute_no_range : {c : Constraint} {found : Result (Optional Rows) Refusal} → queries ≡ intersect_range c ∷ [] → RangeRead h sorts c found
      → queried h rows (length output) a (intersect_range c) (range_view found) ≡ outcome a [] → l' ≡ counted l → Executed h rows sorts a queries l place output l' output
  unfolding subset_left any
  execute_no_range {c} {found} e read nowhere same =
      record {
        ids = a;
        accepted = [];
        queried = queried_one (length output) a (intersect_range c) found (outcome a []) e (λ d z. let k : c ≡ d = cc in rw (← k) read) nowhere;
        refined_is = ap (λ (x : RunAnswer). x.refined) same ∙ sym (or-false l.refined);
        taken = rw (e, same) (omega arith);
        few = rw same (omega arith);
        fits = λ low high held. rw same held;
        there = λ given first second here is. rw same is;
      }

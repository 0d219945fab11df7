-- A run, query by query. Assumes nothing.
use Rattle.replay_queries.proofs.Prelude.{ℕ, zero, suc, ◌+◌, ◌≤◌, min, ◌≡◌, refl, sym, ap, ◌∙◌, Bool, false, ◌||◌, List, [], ◌∷◌, ◌++◌, append_assoc, append-nil, arith, length, take, drop, length-take, length-append, framed_end, framed_next, items_few, Header, Query, refines, Outcome, outcome, or_assoc, or-false, any_both, RunAnswer, query_of, shorter, RunMade, QueriesExecuted, QueryExecuted, queried_then}
use mathlib.Core.Bool.{cond}
use lib.Dec.{eqb}
use borrow.Author.Tests.{ne_eqb}
use Rattle.lists.specs.Lists.{any}
use Rattle.offsets.specs.declared.SubsetRef.{SubsetRef}
use Rattle.offsets.specs.Answers.{lent_subset}
use Rattle.offsets.specs.Laws.Subsets.{lent_is}
use Rattle.replay_queries.specs.Outcomes.{ids_at, subset_left, QueriedAll, end}
use Rattle.replay_queries.specs.inner.Executing.{Inside}
use Rattle.replay_queries.specs.Laws.Executing.{behind}
use Rattle.replay_frames.specs.Frames.{framed}
use Rattle.replay_frames.specs.Items.{items}

-- the ids left are within the list
pub inside_count : (place : ℕ) {count room : ℕ} → count ≤ cond (eqb place 0) 0 room → count ≤ room
inside_count zero held = omega arith
inside_count (suc place) held = rw (ne_eqb (suc place) 0 (λ e. omega arith)) at held

-- the first ids of a list, as they are lent
pub lent_count : (n : ℕ) (l : List ℕ) → n ≤ length l → n ≡ length (take n l)
lent_count n l h = simp length-take (omega arith)

take_inside : (n : ℕ) (a b : List ℕ) → n ≤ length a → take n (a ++ b) ≡ take n a
take_inside zero a b h = refl
take_inside (suc n) [] b h = absurd (omega arith)
take_inside (suc n) (x ∷ a) b h = ap (λ (l : List ℕ). x ∷ l) (take_inside n a b (omega arith))

drop_behind : (n : ℕ) (a b : List ℕ) → length a ≡ n → drop n (a ++ b) ≡ b
drop_behind zero [] b h = refl
drop_behind zero (x ∷ a) b h = absurd (omega arith)
drop_behind (suc n) [] b h = absurd (omega arith)
drop_behind (suc n) (x ∷ a) b h = drop_behind n a b (omega arith)

-- before the queries in the words that are left: the result of the remaining queries, with those accepted so far, is the result of all queries
module _ (h : Header) (rows sorts ids words first₀ second₀ : List ℕ) (l₀ : RunAnswer) (first second : List ℕ) (l : RunAnswer) (left : List ℕ) where
  pub record Going : Type 0 where
    pub first_long : length first ≡ length first₀
    pub second_long : length second ≡ length second₀
    pub alike : length second₀ ≡ length first₀
    pub fits : Inside l (length first₀)
    pub early : l.taken + length (items left) ≤ length words
    pub accepted : List Query
    pub refined_is : l.refined ≡ (l₀.refined || any refines accepted)
    pub taken : l.taken + length (framed query_of left) ≡ l₀.taken + length (framed query_of words)
    pub rest : (o : Outcome) → QueriedAll h rows sorts (length first₀) (subset_left l ids first second) (framed query_of left) o
        → QueriedAll h rows sorts (length first₀) (subset_left l₀ ids first₀ second₀) (framed query_of words) (behind accepted o)

module _ {h : Header} {rows sorts ids words first₀ second₀ : List ℕ} {l₀ : RunAnswer} where
  pub going_begin : l₀.count ≡ 0 → l₀.place ≡ 0 → l₀.taken ≡ 0 → length second₀ ≡ length first₀
      → {left : List ℕ} → left ≡ words → Going h rows sorts ids words first₀ second₀ l₀ first₀ second₀ l₀ left
  going_begin none whole fresh alike e =
      record {
        first_long = refl;
        second_long = refl;
        alike = alike;
        fits = (omega arith, omega arith);
        early = omega (arith, ap (λ (w : List ℕ). length (items w)) e, items_few words);
        accepted = [];
        refined_is = unfold any in sym (or-false l₀.refined);
        taken = rw e;
        rest = λ o more. rw (← e) more;
      }

  module _ {first second : List ℕ} {l : RunAnswer} {left : List ℕ} (v : Going h rows sorts ids words first₀ second₀ l₀ first second l left) where
    -- one query is run
    pub going_again : {first' second' : List ℕ} {l' : RunAnswer} {item : ℕ × List ℕ} (left' : List ℕ) → items left ≡ item ∷ items left'
        → QueryExecuted h rows sorts ids (query_of item.0 item.1) l first second l' first' second'
        → length first' ≡ length first → length second' ≡ length second
        → Going h rows sorts ids words first₀ second₀ l₀ first' second' l' left'
    going_again {first'} {second'} {l'} {item} left' here t a b =
        let q : List Query = query_of item.0 item.1 in
        let qs : List Query = framed query_of left' in
        let queried : List Query = t.execute.accepted in
        let frame : framed query_of left ≡ q ++ qs = framed_next query_of left left' here in
        record {
          first_long = a ∙ v.first_long;
          second_long = b ∙ v.second_long;
          alike = v.alike;
          fits = rw v.first_long at t.execute.fits;
          early = omega (arith, t.few, v.early, ap length here);
          accepted = v.accepted ++ queried;
          refined_is = t.execute.refined_is ∙ ap (λ (r : Bool). r || any refines queried) v.refined_is ∙ or_assoc l₀.refined (any refines v.accepted) (any refines queried)
              ∙ ap (λ (r : Bool). l₀.refined || r) (sym (any_both refines v.accepted queried));
          taken =
              let sum : length (framed query_of left) ≡ length q + length qs = ap length frame ∙ length-append q qs in
              let both = t.execute.taken in
              omega (arith, sum, both, v.taken);
          rest = λ o more.
              rw (append_assoc v.accepted queried o.accepted)
              (v.rest (behind queried o) (rw frame (queried_then (rw v.first_long at t.execute.queried) more)));
        }

    -- no query is left
    pub going_end : items left ≡ [] → QueriesExecuted h rows sorts ids (framed query_of words) l₀ first₀ second₀ l first second
    going_end none =
        let frame : framed query_of left ≡ [] = framed_end query_of left none in
        record {
          accepted = v.accepted;
          queried = rw (append-nil v.accepted) at (v.rest (outcome (subset_left l ids first second) []) (rw frame (end (subset_left l ids first second))));
          refined_is = v.refined_is;
          taken = let empty : length (framed query_of left) ≡ 0 = ap length frame in omega (arith, empty, v.taken);
          fits = v.fits;
        }

-- ---- `run_queries`: the first ids of both lists

module _ (n : ℕ) (first second : List ℕ) (e : n ≡ min (length first) (length second)) where
  pub room_first : n ≡ length (take n first)
  room_first = lent_count n first (omega arith)

  pub room_second : n ≡ length (take n second)
  room_second = lent_count n second (omega arith)

  pub room_alike : length (take n second) ≡ length (take n first)
  room_alike = sym room_second ∙ room_first

-- ids within a first part are those of the whole list
ids_at_part : (place count : ℕ) (ids first second more more' : List ℕ) → count ≤ length first → count ≤ length second
    → ids_at place count ids (first ++ more) (second ++ more') ≡ ids_at place count ids first second
unfolding ids_at
ids_at_part place count ids first second more more' a b = rw (take_inside count first more a, take_inside count second more' b)

part_left : (l : RunAnswer) (ids first second more more' : List ℕ) → l.count ≤ length first → l.count ≤ length second
    → subset_left l ids (first ++ more) (second ++ more') ≡ subset_left l ids first second
unfolding subset_left
part_left l ids first second more more' a b = rw (ids_at_part l.place l.count ids first second more more' a b)

abbrev before : SubsetRef → RunAnswer
before lent = record { dense = lent.dense; start = lent.start; end = lent.end; count = 0; place = 0; refined = false; taken = 0 }

starting : (lent : SubsetRef) (first second : List ℕ) → subset_left (before lent) lent.ids.now first second ≡ lent_subset lent
unfolding subset_left ids_at
starting lent first second = sym (lent_is lent)

module _ {h : Header} {rows sorts : List ℕ} {queries : List Query} (lent : SubsetRef) (n : ℕ) (first second : List ℕ) {r : RunAnswer} {part part' : List ℕ} where
  pub made_within : n ≡ min (length first) (length second) → QueriesExecuted h rows sorts lent.ids.now queries (before lent) (take n first) (take n second) r part part'
      → length part ≡ length (take n first) → length part' ≡ length (take n second)
      → RunMade h rows sorts (lent_subset lent) lent.ids.now queries first second r (part ++ drop n first) (part' ++ drop n second)
  made_within e t a b =
      let room : length (take n first) ≡ shorter first second = sym (room_first n first second e) ∙ e in
      let held : r.count ≤ length (take n first) = inside_count r.place t.fits.1 in
      let left : subset_left r lent.ids.now (part ++ drop n first) (part' ++ drop n second) ≡ subset_left r lent.ids.now part part' =
      part_left r lent.ids.now part part' (drop n first) (drop n second) (omega arith) (omega (arith, room_alike n first second e)) in
      let start = starting lent (take n first) (take n second) in
      record {
        taken = t.taken ∙ (let z : 0 + length queries ≡ length queries = omega arith in z);
        accepted = t.accepted;
        refined_is = t.refined_is;
        inside = rw room at t.fits;
        queried = rw left (rw (room, start) at t.queried);
        past = rw (← e) (drop_behind n part (drop n first) (a ∙ sym (room_first n first second e)), drop_behind n part' (drop n second) (b ∙ sym (room_second n first second e)));
      }

-- One query run on the ids left, and one after another. Assumes nothing.
use Rattle.std.specs.Prelude.{◌≤◌, ◌<◌, ◌≡◌, ◌++◌}
use Rattle.replay_queries.specs.Laws.Prelude.{ℕ, refl, List, append_assoc, arith, length, take, ne_eqb, Header, Query, Outcome, RunAnswer, Executed, QueryExecuted}
use Rattle.offsets.specs.Subsets.{Subset}
use Rattle.replay_queries.specs.Outcomes.{ids_at, left_in, subset_left, QueriedAll, end, next}
use Rattle.replay_queries.specs.inner.Executing.{Inside}
use Rattle.replay_queries.specs.Laws.Executing.{behind}

-- ---- one query

module _ {h : Header} {rows sorts ids : List ℕ} {queries : List Query} {l l' : RunAnswer} {first second first' second' : List ℕ} (place : ℕ) {a : Subset} {output output' : List ℕ} where
  -- its output was the list of this place; the ids that it ran on are unchanged
  execute_in : Executed h rows sorts a queries l place output l' output' → length output ≡ length first → 0 < place → place ≤ 2 → Inside l (length first)
      → subset_left l ids first second ≡ a → subset_left l ids first' second' ≡ a → ((n : ℕ) → ids_at place n ids first' second' ≡ take n output')
      → QueryExecuted h rows sorts ids queries l first second l' first' second'
  execute_in p long low high held before kept here =
      let is : subset_left l' ids first' second' ≡ p.ids = p.there ids first' second' here kept in
      record {
        execute = record {
          accepted = p.accepted;
          queried = rw (is, before, ← long) p.queried;
          refined_is = p.refined_is;
          taken = p.taken;
          fits = rw long at (p.fits low high (rw long held));
        };
        few = p.few;
      }

-- the ids left as they are lent to a query
module _ (l : RunAnswer) (ids first second : List ℕ) where
  lent_first : l.place ≡ 1 → subset_left l ids first second ≡ left_in l (take l.count first)
  unfolding subset_left ids_at
  lent_first e = rw e

  lent_second : l.place ≡ 2 → subset_left l ids first second ≡ left_in l (take l.count second)
  unfolding subset_left ids_at
  lent_second e = rw e

  lent_neither : (l.place ≡ 1 → ⊥) → (l.place ≡ 2 → ⊥) → subset_left l ids first second ≡ left_in l ids
  unfolding subset_left ids_at
  lent_neither a b = rw (ne_eqb l.place 1 a, ne_eqb l.place 2 b)

into_first : (n : ℕ) (ids first second : List ℕ) → ids_at 1 n ids first second ≡ take n first
unfolding ids_at
into_first n ids first second = refl

into_second : (n : ℕ) (ids first second : List ℕ) → ids_at 2 n ids first second ≡ take n second
unfolding ids_at
into_second n ids first second = refl

-- the three cases: the ids left are in the first list, in the second, or in neither
module _ {h : Header} {rows sorts : List ℕ} (ids : List ℕ) {queries : List Query} {l l' : RunAnswer} {first second : List ℕ} (held : Inside l (length first)) (long : length second ≡ length first) where
  pub execute_first : {second' : List ℕ} → l.place ≡ 1 → Executed h rows sorts (left_in l (take l.count first)) queries l 2 second l' second'
      → QueryExecuted h rows sorts ids queries l first second l' first second'
  execute_first {second'} e p = execute_in 2 p long (omega arith) (omega arith) held (lent_first l ids first second e) (lent_first l ids first second' e) (λ n. into_second n ids first second')

  pub execute_second : {first' : List ℕ} → l.place ≡ 2 → Executed h rows sorts (left_in l (take l.count second)) queries l 1 first l' first'
      → QueryExecuted h rows sorts ids queries l first second l' first' second
  execute_second {first'} e p = execute_in 1 p refl (omega arith) (omega arith) held (lent_second l ids first second e) (lent_second l ids first' second e) (λ n. into_first n ids first' second)

  pub execute_neither : {first' : List ℕ} → (l.place ≡ 1 → ⊥) → (l.place ≡ 2 → ⊥) → Executed h rows sorts (left_in l ids) queries l 1 first l' first'
      → QueryExecuted h rows sorts ids queries l first second l' first' second
  execute_neither {first'} a b p = execute_in 1 p refl (omega arith) (omega arith) held (lent_neither l ids first second a b) (lent_neither l ids first' second a b) (λ n. into_first n ids first' second)

-- ---- one after another

pub queried_then : {h : Header} {rows sorts : List ℕ} {room : ℕ} {a : Subset} {qs rs : List Query} {o p : Outcome} → QueriedAll h rows sorts room a qs o → QueriedAll h rows sorts room o.ids rs p
    → QueriedAll h rows sorts room a (qs ++ rs) (behind o.accepted p)
queried_then (end a) more = more
queried_then (next range read queried) more = rw append_assoc (next range read (queried_then queried more))

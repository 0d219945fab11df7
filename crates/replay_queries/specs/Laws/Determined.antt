-- The contract of `run_queries` determines the outcome: on a table, the ids left in their form and order, whether an accepted query
-- refined, how many were taken, and everything that is never written. Which lent list has the ids is the program's choice.
-- Assumes nothing.
use Rattle.std.specs.Prelude.{◌≡◌}
use Rattle.replay_queries.specs.Laws.Prelude.{ℕ, sym, ap, ◌∙◌, true, List, drop, any, entries_of, entries_sound, Header, Query, refines, Outcome, RunAnswer, subset_left, shorter, RunMade}
use Rattle.offsets.specs.Subsets.{Subset}
use Rattle.replay_queries.specs.Laws.Claimed.{made_leaves}

-- the result of a run
pub record RunLeft : Type 0 where
  pub answer : RunAnswer
  pub first : List ℕ
  pub second : List ℕ

module _ (h : Header) (rows sorts : List ℕ) (start : Subset) (ids : List ℕ) (queries : List Query) (first second : List ℕ) where
  pub record SameRun (x y : RunLeft) : Type 0 where
    -- for any stores
    pub taken : x.answer.taken ≡ y.answer.taken
    pub past : (drop (shorter first second) x.first ≡ drop (shorter first second) y.first)
        × (drop (shorter first second) x.second ≡ drop (shorter first second) y.second)
    -- if the sort entries are sound
    pub ids_same : entries_sound (entries_of h.entries sorts) h.rows ≡ true
        → subset_left x.answer ids x.first x.second ≡ subset_left y.answer ids y.first y.second
    pub refined : entries_sound (entries_of h.entries sorts) h.rows ≡ true → x.answer.refined ≡ y.answer.refined

  abbrev RunTo : RunLeft → Type 0
  RunTo x = RunMade h rows sorts start ids queries first second x.answer x.first x.second

  pub run_made_determined : (x y : RunLeft) → RunTo x → RunTo y → SameRun x y
  run_made_determined x y u v =
      record {
        taken = u.taken ∙ sym v.taken;
        past = (u.past.0 ∙ sym v.past.0, u.past.1 ∙ sym v.past.1);
        ids_same = λ sound. ap (λ (o : Outcome). o.ids) (made_leaves u sound ∙ sym (made_leaves v sound));
        refined = λ sound. u.refined_is ∙ ap (λ (o : Outcome). any refines o.accepted) (made_leaves u sound ∙ sym (made_leaves v sound)) ∙ sym v.refined_is;
      }

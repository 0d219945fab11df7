-- Each contract determines the outcome. Assumes nothing.
use Rattle.std.specs.Prelude.{◌≡◌}
use Rattle.short_histories.specs.Laws.Prelude.{ℕ, refl, sym, ap, ◌∙◌, ⊎_elim, List, Option, get_or, some_number, Same, insert, remove_key, remove_row, Call, staging, merging, compacting, clearing, refreshing, feeding, Result, Ok, Err, Optional, Refusal, Step, Insert, Remove, Merge}
use Rattle.refusals.specs.Laws.Numbers.{number_injective, answer_view_injective, found_view_injective}
use Rattle.short_histories.specs.Sequences.{call_of, step_view, StepAnswered, PositionAnswered, SequenceAnswered}

-- ---- an answer is determined by its reply

step_of : Call → Step
step_of (staging (insert cells)) = Insert (get_or cells 0 0) (get_or cells 1 0) (get_or cells 2 0)
step_of (staging (remove_key key)) = Remove (get_or key 0 0)
step_of (staging (remove_row row key)) = Merge
step_of merging = Merge
step_of compacting = Merge
step_of clearing = Merge
step_of (refreshing r index) = Merge
step_of (feeding rs) = Merge

call_of_inverse : (step : Step) → step_of (call_of step) ≡ step
unfolding step_of call_of
call_of_inverse (Insert key stamp third) = refl
call_of_inverse (Remove key) = refl
call_of_inverse Merge = refl

step_view_injective : (a b : Result Step Refusal) → step_view a ≡ step_view b → a ≡ b
unfolding step_view
step_view_injective (Ok s) (Ok t) e =
    let same : call_of s ≡ call_of t = cc in ap Ok (sym (call_of_inverse s) ∙ ap step_of same ∙ call_of_inverse t)
step_view_injective (Ok s) (Err q) e = cc
step_view_injective (Err r) (Ok t) e = cc
step_view_injective (Err r) (Err q) e = ap Err (number_injective r q cc)

-- ---- the contracts

pub step_determined : (step : ℕ) {a b : Result Step Refusal} → StepAnswered step a → StepAnswered step b → a ≡ b
step_determined step {a} {b} x y = step_view_injective a b (x ∙ sym y)

pub position_determined : (sequence : List ℕ) {a b : Result ℕ Refusal} → PositionAnswered sequence a → PositionAnswered sequence b → a ≡ b
position_determined sequence {a} {b} x y = answer_view_injective a b (x ∙ sym y)

pub sequence_determined : {refusal : ℕ} {found : Option (List ℕ)} {output output₁ output₂ : List ℕ} {a b : Result (Optional ℕ) Refusal}
    → SequenceAnswered refusal found output a output₁ → SequenceAnswered refusal found output b output₂ → Same a b output₁ output₂
sequence_determined {refusal} {a = a} {b = b} x y =
    record {
      answer = found_view_injective a b (x.effect.answers ∙ sym y.effect.answers);
      cells =
          ⊎_elim (λ none. x.effect.written none ∙ sym (y.effect.written none)) (λ some. x.effect.unchanged some ∙ sym (y.effect.unchanged some))
          (some_number refusal);
    }

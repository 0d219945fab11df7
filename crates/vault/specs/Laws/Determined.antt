-- The contract determines the outcome. Assumes nothing.
use Rattle.vault.specs.Laws.Prelude.{ℕ, sym, ◌∙◌, ⊎_elim, List, length, some_number, Same, Result, Refusal}
use Rattle.refusals.specs.Laws.Numbers.{answer_view_injective}
use Rattle.vault.specs.Columns.{columns_refusal, Rearranged}

pub rearranged_determined : {order : ℕ → List ℕ → List ℕ} {width : ℕ} {cells output output₁ output₂ : List ℕ} {a b : Result (Unit {0}) Refusal}
    → Rearranged order width cells output a output₁ → Rearranged order width cells output b output₂ → Same a b output₁ output₂
rearranged_determined {width = width} {cells} {output} {a = a} {b = b} x y =
    record {
      answer = answer_view_injective a b (x.effect.answers ∙ sym y.effect.answers);
      cells =
          ⊎_elim (λ none. x.effect.written none ∙ sym (y.effect.written none)) (λ some. x.effect.unchanged some ∙ sym (y.effect.unchanged some))
          (some_number (columns_refusal width (length cells) (length output)));
    }

-- The contracts of *Image size* and *Write image* determine the outcome. Assumes nothing.
use Rattle.std.specs.Prelude.{◌≡◌, Result}
use Rattle.refusals.specs.declared.Refusal.{Refusal}
use Rattle.refusals.specs.Laws.Numbers.{answer_view_injective}
use Rattle.image_write.specs.Laws.Prelude.{ℕ, sym, ◌∙◌, ⊎_elim, List, length, some_number, Same, Header}
use Rattle.image_spec.specs.Outcomes.{ImageSized, write_refusal, ImageWritten}

pub sized_determined : {h : Header} {text : ℕ} {a b : Result ℕ Refusal} → ImageSized h text a → ImageSized h text b → a ≡ b
sized_determined {a = a} {b = b} x y = answer_view_injective a b (x.answers ∙ sym y.answers)

pub written_determined : {h : Header} {rows sorts pending text output output₁ output₂ : List ℕ} {a b : Result ℕ Refusal}
    → ImageWritten h rows sorts pending text output a output₁ → ImageWritten h rows sorts pending text output b output₂ → Same a b output₁ output₂
written_determined {h} {rows} {sorts} {pending} {text} {output} {a = a} {b = b} x y =
    record {
      answer = answer_view_injective a b (x.effect.answers ∙ sym y.effect.answers);
      cells =
          ⊎_elim (λ none. x.effect.written none ∙ sym (y.effect.written none)) (λ some. x.effect.unchanged some ∙ sym (y.effect.unchanged some))
          (some_number (write_refusal h (length rows) (length sorts) (length pending) (length text) (length output)));
    }

-- The contract determines the outcome. Assumes nothing.
use Rattle.refusals.specs.Laws.Numbers.{answer_view_injective}
use Rattle.refusals.specs.declared.Refusal.{Refusal}
use Rattle.std.specs.Prelude.{Result}
use Rattle.listing_write.specs.Laws.Prelude.{sym, ◌∙◌, ⊎_elim, Bool, List, ℕ, length, some_number, Same, Header, write_refusal, ListingWritten}

pub written_determined : {numbered : Bool} {h : Header} {rows output output₁ output₂ : List ℕ} {a b : Result ℕ Refusal} → ListingWritten numbered h rows output a output₁
    → ListingWritten numbered h rows output b output₂ → Same a b output₁ output₂
written_determined {numbered} {h} {rows} {output} {a = a} {b = b} x y = record {
  answer = answer_view_injective a b (x.effect.answers ∙ sym y.effect.answers);
  cells =
      ⊎_elim (λ zero. x.effect.written zero ∙ sym (y.effect.written zero)) (λ more. x.effect.unchanged more ∙ sym (y.effect.unchanged more))
      (some_number (write_refusal numbered h rows (length output)));
}

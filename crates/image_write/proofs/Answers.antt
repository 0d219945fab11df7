-- The ways out of the entry points: refused, or accepted. Assumes nothing.
use Rattle.image_write.proofs.Prelude.{ℕ, ◌≡◌, refl, ◌∙◌, List, arith, length, splice, Header, image_words, image_of, image_length}
use Rattle.std.specs.Prelude.{Ok, Err}
use Rattle.refusals.specs.declared.Refusal.{Refusal}
use Rattle.refusals.specs.Refusals.{number}
use Rattle.refusals.specs.Laws.Numbers.{err_replies, ok_replies, number_some}
use Rattle.image_spec.specs.Outcomes.{ImageSized, write_refusal, ImageWritten}
use Rattle.image_write.specs.inner.Parts.{size_refusal}

module _ (h : Header) (text : ℕ) where
  pub sized_refused : (r : Refusal) → number r ≡ size_refusal h text → ImageSized h text (Err r)
  unfolding size_refusal
  sized_refused r e = record { answers = err_replies r _ e }

  pub sized_accepted : (n : ℕ) → size_refusal h text ≡ 0 → n ≡ image_length h text → ImageSized h text (Ok n)
  unfolding size_refusal
  sized_accepted n none e = record { answers = ok_replies e none }

module _ (h : Header) (rows sorts pending text output : List ℕ) where
  pub written_refused : (r : Refusal) → number r ≡ write_refusal h (length rows) (length sorts) (length pending) (length text) (length output)
      → ImageWritten h rows sorts pending text output (Err r) output
  written_refused r e =
      record {
        effect =
            record {
              answers = err_replies r _ e;
              unchanged = λ k. refl;
              written = λ none. absurd (number_some r (e ∙ none));
            };
      }

  pub written_accepted : (n : ℕ) (output' : List ℕ) → write_refusal h (length rows) (length sorts) (length pending) (length text) (length output) ≡ 0
      → n ≡ image_length h (length text) → output' ≡ splice output 0 (image_words (image_of h rows sorts pending text))
      → ImageWritten h rows sorts pending text output (Ok n) output'
  written_accepted n output' none e w =
      record {
        effect =
            record {
              answers = ok_replies e none;
              unchanged = λ some. absurd (omega arith);
              written = λ k. w;
            };
      }

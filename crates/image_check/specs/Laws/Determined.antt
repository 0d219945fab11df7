-- The contract determines the outcome. Assumes nothing.
use Rattle.table.specs.declared.Header.{Header}
use Rattle.refusals.specs.Laws.Numbers.{answer_view_injective}
use Rattle.refusals.specs.declared.Refusal.{Refusal}
use Rattle.std.specs.Prelude.{ℕ, ◌≡◌, refl, List, Result}
use Rattle.std.proofs.Common.{sym, ◌∙◌, inl, inr}
use Rattle.std.proofs.Math.Option.{Option, none, some, Option-elim}
use Rattle.lists.specs.Laws.Filter.{split}
use Rattle.image_spec.specs.Image.{Image}
use Rattle.image_spec.specs.Outcomes.{Decoded, check_reply, ImageChecked}
use Rattle.image_spec.specs.Laws.Unique.{reads_unique}

module _ {words : List ℕ} (a b : Decoded words) where
  -- words are one image at most
  pub same_image : a.image ≡ b.image
  same_image = reads_unique words a.image b.image a.reads b.reads

  -- and it is of a sound table or not
  pub same_sound : (i : Image) → a.image ≡ some i → a.sound ≡ b.sound
  same_sound i e =
      elim (split a.sound) [
        | inl p ↦ elim (split b.sound) [
          | inl q ↦ p ∙ sym q
          | inr q ↦ absurd (b.if_unsound q i (sym same_image ∙ e) (a.if_sound p i e))
        ]
        | inr p ↦ elim (split b.sound) [
          | inl q ↦ absurd (a.if_unsound p i e (b.if_sound q i (sym same_image ∙ e)))
          | inr q ↦ p ∙ sym q
        ]
      ]

check_same : {words : List ℕ} (a b : Decoded words) (x : Option Image) → a.image ≡ x → check_reply a.image a.sound ≡ check_reply b.image b.sound
unfolding check_reply Option-elim
check_same a b none e = rw (e, sym (same_image a b) ∙ e)
check_same a b (some i) e = rw (e, sym (same_image a b) ∙ e, same_sound a b i e)

pub image_checked_determined : {words : List ℕ} {r₁ r₂ : Result Header Refusal} → ImageChecked words r₁ → ImageChecked words r₂ → r₁ ≡ r₂
image_checked_determined {r₁ = r₁} {r₂ = r₂} x y = answer_view_injective r₁ r₂ (x.answers ∙ check_same x.decoded y.decoded x.decoded.image refl ∙ sym y.answers)

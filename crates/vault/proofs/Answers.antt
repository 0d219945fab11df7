-- The ways out of the entry points: refused, or all written. Assumes nothing.
use Rattle.vault.proofs.Prelude.{ℕ, ◌*◌, ◌/◌, ◌≡◌, refl, ◌∙◌, arith, List, length, splice, err_replies, ok_replies, number_some, number, Refusal, Ok, Err, Shaped, Filled, DirectionLaws, multiple, Accepted, accepted}
use Rattle.vault.specs.Columns.{columns_refusal, Rearranged}
use Rattle.vault.proofs.Filling.{filled_all}

module _ (order : ℕ → List ℕ → List ℕ) (width : ℕ) (cells output : List ℕ) where
  pub rearranged_refused : (r : Refusal) → number r ≡ columns_refusal width (length cells) (length output) → Rearranged order width cells output (Err r) output
  rearranged_refused r e =
      record { effect = record { answers = err_replies r tt e; unchanged = λ h. refl; written = λ none. absurd (number_some r (e ∙ none)) } }

  -- accepted, and all places written
  rearranged_written : (output' : List ℕ) → columns_refusal width (length cells) (length output) ≡ 0 → output' ≡ splice output 0 (order width cells)
      → Rearranged order width cells output (Ok tt) output'
  rearranged_written output' none e =
      record { effect = record { answers = ok_replies refl none; unchanged = λ h. absurd (omega arith); written = λ h. e } }

module _ (width : ℕ) (cells output : List ℕ) (none : columns_refusal width (length cells) (length output) ≡ 0) where
  a : Accepted width (length cells) (length output)
  a = accepted width (length cells) (length output) none

  whole : length cells ≡ length cells / width * width
  whole = multiple width (length cells) a.multiple

  pub shaped : Shaped width (length cells / width) cells output
  shaped = record { some = a.narrow; whole = whole; room = a.room }

  pub all_written : {order : ℕ → List ℕ → List ℕ} {place : ℕ → ℕ → ℕ → ℕ → ℕ} → DirectionLaws order place → (output' : List ℕ)
      → Filled (order width cells) (place width (length cells / width)) 0 (length cells / width) 0 width output output' → Rearranged order width cells output (Ok tt) output'
  all_written {order} laws output' x =
      let long = laws.long width cells a.narrow a.multiple in
      rearranged_written order width cells output output' none
      (filled_all (length cells / width) width output output' (omega (arith, a.room, long)) (λ at h. laws.where_is width (length cells / width) at (omega (arith, whole, long))) x)

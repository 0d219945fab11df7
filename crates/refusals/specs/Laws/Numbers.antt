-- Refusals and their numbers: no number is 0, and no two refusals have the same one. So a result is determined by the reply that it is.
-- Assumes nothing.
use Rattle.std.specs.Prelude.{ℕ, ◌<◌, ◌≡◌, ◌⊎◌, refl, cond, eqb, Result, Ok, Err, Option as Optional, Some, None}
use Rattle.std.proofs.Common.{ap, sym, ◌∙◌, arith, inl, inr}
use Rattle.std.proofs.Math.Decide.{ℕ_discrete}
use Rattle.refusals.specs.declared.Refusal.{Refusal}
use Rattle.refusals.specs.declared.Refusal.TheVariants.{OutOfBounds, TooShort, WrongWidth, MalformedSubset, PastTheRows, NoSuchColumn, PendingFull, OldSortValue, LastGeneration, NoListing, TooManyColumns, BrokenRow, PairCount, UnknownSequence, PastTheLast, MissingRow, OldNote, NoImage, UnsoundImage, TextTooLong}
use Rattle.refusals.specs.Refusals.{refused, accepted, reply, outcome, number, answer_view, found_view}
use Rattle.refusals.specs.Laws.Replies.{reply_refused, reply_accepted, outcome_refused, outcome_accepted}

-- the refusal with a number
numbered : ℕ → Refusal
numbered n = cond (eqb n 1) OutOfBounds (cond (eqb n 2) TooShort (cond (eqb n 3) WrongWidth (cond (eqb n 4) MalformedSubset (cond (eqb n 5) PastTheRows (cond (eqb n 6) NoSuchColumn (cond (eqb n 7) PendingFull (cond (eqb n 9) OldSortValue (cond (eqb n 10) LastGeneration (cond (eqb n 11) NoListing (cond (eqb n 12) TooManyColumns (cond (eqb n 13) BrokenRow (cond (eqb n 14) PairCount (cond (eqb n 15) UnknownSequence (cond (eqb n 16) PastTheLast (cond (eqb n 17) MissingRow (cond (eqb n 18) OldNote (cond (eqb n 19) NoImage (cond (eqb n 20) UnsoundImage (TextTooLong)))))))))))))))))))

numbered_number : (r : Refusal) → numbered (number r) ≡ r
unfolding numbered
numbered_number OutOfBounds = refl
numbered_number TooShort = refl
numbered_number WrongWidth = refl
numbered_number MalformedSubset = refl
numbered_number PastTheRows = refl
numbered_number NoSuchColumn = refl
numbered_number PendingFull = refl
numbered_number OldSortValue = refl
numbered_number LastGeneration = refl
numbered_number NoListing = refl
numbered_number TooManyColumns = refl
numbered_number BrokenRow = refl
numbered_number PairCount = refl
numbered_number UnknownSequence = refl
numbered_number PastTheLast = refl
numbered_number MissingRow = refl
numbered_number OldNote = refl
numbered_number NoImage = refl
numbered_number UnsoundImage = refl
numbered_number TextTooLong = refl

pub number_injective : (r q : Refusal) → number r ≡ number q → r ≡ q
number_injective r q e = sym (numbered_number r) ∙ ap numbered e ∙ numbered_number q

-- a number is that of a refusal, or of none
pub number_or_none : (n : ℕ) → ((r : Refusal) × (number r ≡ n)) ⊎ ((r : Refusal) → number r ≡ n → ⊥)
number_or_none n =
    elim (ℕ_discrete (number (numbered n)) n) [
      | yes e ↦ inl (numbered n, e)
      | no f ↦ inr (λ r e. f (ap number (ap numbered (sym e) ∙ numbered_number r) ∙ e))
    ]

pub number_positive : (r : Refusal) → 0 < number r
number_positive OutOfBounds = omega arith
number_positive TooShort = omega arith
number_positive WrongWidth = omega arith
number_positive MalformedSubset = omega arith
number_positive PastTheRows = omega arith
number_positive NoSuchColumn = omega arith
number_positive PendingFull = omega arith
number_positive OldSortValue = omega arith
number_positive LastGeneration = omega arith
number_positive NoListing = omega arith
number_positive TooManyColumns = omega arith
number_positive BrokenRow = omega arith
number_positive PairCount = omega arith
number_positive UnknownSequence = omega arith
number_positive PastTheLast = omega arith
number_positive MissingRow = omega arith
number_positive OldNote = omega arith
number_positive NoImage = omega arith
number_positive UnsoundImage = omega arith
number_positive TextTooLong = omega arith

pub number_some : (r : Refusal) → number r ≡ 0 → ⊥
number_some r zero = omega (arith, number_positive r, zero)

module _ {A : Type 0} where
  pub answer_view_injective : (x y : Result A Refusal) → answer_view x ≡ answer_view y → x ≡ y
  unfolding answer_view
  answer_view_injective (Ok a) (Ok b) e = cc
  answer_view_injective (Ok a) (Err r) e = cc
  answer_view_injective (Err r) (Ok b) e = cc
  answer_view_injective (Err r) (Err q) e = ap Err (number_injective r q cc)

  pub found_view_injective : (x y : Result (Optional A) Refusal) → found_view x ≡ found_view y → x ≡ y
  unfolding found_view
  found_view_injective (Ok None) (Ok None) e = refl
  found_view_injective (Ok None) (Ok (Some b)) e = cc
  found_view_injective (Ok None) (Err r) e = cc
  found_view_injective (Ok (Some a)) (Ok None) e = cc
  found_view_injective (Ok (Some a)) (Ok (Some b)) e = cc
  found_view_injective (Ok (Some a)) (Err r) e = cc
  found_view_injective (Err r) (Ok None) e = cc
  found_view_injective (Err r) (Ok (Some b)) e = cc
  found_view_injective (Err r) (Err q) e = ap Err (number_injective r q cc)

  -- a refusal with the number of the checks
  pub err_replies : (r : Refusal) {n : ℕ} (value : A) → number r ≡ n → answer_view (Err r) ≡ reply n value
  unfolding answer_view
  err_replies r {n} value e = reply_refused (refused (number r)) n (number r) value refl e (number_some r)

  -- accepted: the checks give 0
  pub ok_replies : {n : ℕ} {value other : A} → value ≡ other → n ≡ 0 → answer_view (Ok value) ≡ reply n other
  unfolding answer_view
  ok_replies {n} {value} {other} e none = reply_accepted (accepted value) n other (ap accepted e) none

  pub ok_outcome : {n : ℕ} (value : A) → n ≡ 0 → outcome (answer_view (Ok value)) ≡ reply n tt
  unfolding answer_view
  ok_outcome {n} value none = outcome_accepted (accepted value) n value refl none

pub err_outcome : (A : Type 0) (r : Refusal) {n : ℕ} → number r ≡ n → outcome (answer_view {A = A} (Err r)) ≡ reply n tt
unfolding answer_view
err_outcome A r {n} e = outcome_refused (refused (number r)) n (number r) refl e (number_some r)

pub none_outcome : (A : Type 0) (r : Refusal) {n : ℕ} → number r ≡ n → outcome (found_view {A = A} (Err r)) ≡ reply n tt
unfolding found_view
none_outcome A r {n} e = outcome_refused (refused (number r)) n (number r) refl e (number_some r)

-- Numbers that rise up to a place: the loop of `first_misplaced`. Assumes nothing.
use Rattle.listing_check.proofs.Prelude.{ℕ, ◌+◌, ◌-◌, ◌≤◌, ◌<◌, ◌≡◌, List, dec_lt, arith, length, get_or, rising_of, misplaced_rising, misplaced_at, sym, ap, ◌∙◌, none, some}
use Rattle.std.specs.Prelude.{Option as Optional, Some, None}
use Rattle.listing_check.specs.Answers.{misplaced}
use Rattle.listing_check.specs.inner.Scanning.{misplaced_place}

abbrev pub Risen : List ℕ → ℕ → Type 0
Risen given at = (i : ℕ) → 0 < i → i < at → get_or given (i - 1) 0 < get_or given i 0

module _ (given : List ℕ) (at : ℕ) (risen : Risen given at) where
  pub risen_more : get_or given (at - 1) 0 < get_or given at 0 → Risen given (at + 1)
  risen_more h i p q = elim (dec_lt i at) [
    | yes l ↦ risen i p l
    | no l ↦ let e : i ≡ at = omega arith in rw e h
  ]

  pub risen_not : 1 ≤ at → at < length given → get_or given at 0 ≤ get_or given (at - 1) 0 → misplaced_place (Some at) ≡ misplaced given
  unfolding misplaced_place
  risen_not p l h = sym (misplaced_at given (record { behind = p; inside = l; not_above = h; rises = risen }))

  pub risen_end : length given ≤ at → misplaced_place None ≡ misplaced given
  risen_end h = unfold misplaced_place in sym (misplaced_rising given (rising_of given step))
    where
      step : (i : ℕ) → i + 1 < length given → get_or given i 0 < get_or given (i + 1) 0
      step i l = let e : i + 1 - 1 ≡ i = omega arith in rw e at (risen (i + 1) (omega arith) (omega arith))

-- the result of `first_misplaced`
module _ (given : List ℕ) (r : Optional ℕ) (e : misplaced_place r ≡ misplaced given) where
  pub none_misplaced : r ≡ None → misplaced given ≡ none
  unfolding misplaced_place
  none_misplaced q = sym e ∙ ap misplaced_place q

  pub one_misplaced : (place : ℕ) → r ≡ Some place → misplaced given ≡ some place
  unfolding misplaced_place
  one_misplaced place q = sym e ∙ ap misplaced_place q

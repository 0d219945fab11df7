-- What each verdict implies about the numbers given and the right ones. Assumes nothing.
use Rattle.std.specs.Prelude.{◌≡◌, ◌∷◌}
use Rattle.listing_check.specs.Laws.Prelude.{ℕ, refl, ◌∙◌, inl, inr, Bool, true, List, [], Option, none, some, arith, drop, get_or, split, above_head, above_tail, above_cons, above_weaker, above_rising, rising_ext, Constraint, met, rising_from_lem, listing_parts}
use Rattle.std.proofs.Math.Option.{Option-elim}
use Rattle.lists.specs.Lists.{filter, all, above, rising}
use Rattle.listing_spec.specs.Listings.{Listing, row_numbers, is_listing}
use Rattle.listing_check.specs.Answers.{right_numbers, misplaced, wrong_numbers, lowest, Finding, correct, out_of_order, lowest_wrong, finding_on}
use Rattle.listing_check.specs.Laws.Numbers.{Apart, wrong_none, wrong_some, wrong_same, FirstNotAbove, misplaced_none, misplaced_rising, misplaced_some, misplaced_at}

-- ---- the right numbers rise

module _ (test : List ℕ → Bool) where
  pub above_kept : (x : ℕ) (rows : List (List ℕ)) → above x (row_numbers rows) ≡ true → above x (row_numbers (filter test rows)) ≡ true
  unfolding row_numbers filter
  above_kept x [] e = e
  above_kept x (row ∷ rows) e =
      let n = get_or row 0 0 in
      let low = above_head x n (row_numbers rows) e in
      let rest = above_tail x n (row_numbers rows) e in
      elim (split (test row)) [
        | inl t ↦ rw t (above_cons x n (row_numbers (filter test rows)) low (above_kept n rows rest))
        | inr t ↦ rw t (above_weaker x n (row_numbers (filter test rows)) (omega (arith, low)) (above_kept n rows rest))
      ]

  rising_kept : (rows : List (List ℕ)) → rising (row_numbers rows) ≡ true → rising (row_numbers (filter test rows)) ≡ true
  unfolding row_numbers filter rising
  rising_kept [] e = e
  rising_kept (row ∷ rows) e =
      let rest = above_kept (get_or row 0 0) rows e in
      elim (split (test row)) [ inl t ↦ rw t rest | inr t ↦ rw t (above_rising (get_or row 0 0) (row_numbers (filter test rows)) rest) ]

pub right_rising : (conditions : List Constraint) (l : Listing) → is_listing true l ≡ true → rising (right_numbers conditions l) ≡ true
unfolding right_numbers
right_rising conditions l e =
    rising_kept (λ ns. all (met (drop 1 ns)) conditions) l.rows (rising_from_lem (row_numbers l.rows) ∙ ((listing_parts true l e).rows_fit.ordered refl).0)

-- ---- the cases of a verdict

-- by the place of the first number out of place, and by the lowest wrong number
abbrev pub verdict_for : Option ℕ → Option ℕ → Finding
verdict_for o w = Option-elim o (Option-elim w correct lowest_wrong) out_of_order

finding_right : (o w : Option ℕ) → verdict_for o w ≡ correct → (o ≡ none) × (w ≡ none)
unfolding Option-elim
finding_right none none e = (refl, refl)
finding_right none (some m) e = absurd (let z : ◌≡◌ {A = ℕ} 0 1 = cc in omega arith)
finding_right (some m) w e = absurd (let z : ◌≡◌ {A = ℕ} 0 1 = cc in omega arith)

module _ (n : ℕ) where
  finding_wrong : (o w : Option ℕ) → verdict_for o w ≡ lowest_wrong n → w ≡ some n
  unfolding Option-elim
  finding_wrong none none e = absurd (let z : ◌≡◌ {A = ℕ} 0 1 = cc in omega arith)
  finding_wrong none (some m) e = cc
  finding_wrong (some m) w e = absurd (let z : ◌≡◌ {A = ℕ} 0 1 = cc in omega arith)

  finding_misplaced : (o w : Option ℕ) → verdict_for o w ≡ out_of_order n → o ≡ some n
  unfolding Option-elim
  finding_misplaced none none e = absurd (let z : ◌≡◌ {A = ℕ} 0 1 = cc in omega arith)
  finding_misplaced none (some m) e = absurd (let z : ◌≡◌ {A = ℕ} 0 1 = cc in omega arith)
  finding_misplaced (some m) w e = cc

module _ (given right : List ℕ) where
  -- "It says yes exactly if those numbers are, rising and each once, the rows .. that meet every condition"
  pub right_exactly : rising right ≡ true → (finding_on given right ≡ correct → given ≡ right) × (given ≡ right → finding_on given right ≡ correct)
  unfolding finding_on
  right_exactly rises = (
    λ e.
        let s = finding_right (misplaced given) (lowest (wrong_numbers given right)) e in
        rising_ext given right (misplaced_none given s.0) rises (wrong_none given right s.1),
    λ e. rw (e, misplaced_rising right rises, wrong_same right) (unfold Option-elim in refl),
  )

  -- "the lowest row number wrongly present or absent"
  pub wrong_lowest : {number : ℕ} → finding_on given right ≡ lowest_wrong number → Apart given right number
  unfolding finding_on
  wrong_lowest {number} e = wrong_some given right (finding_wrong number (misplaced given) (lowest (wrong_numbers given right)) e)

  -- "the place, from 0, of the first number not above the one before"
  pub misplaced_first : {place : ℕ} → finding_on given right ≡ out_of_order place → FirstNotAbove given place
  unfolding finding_on
  misplaced_first {place} e = misplaced_some given (finding_misplaced place (misplaced given) (lowest (wrong_numbers given right)) e)

  pub first_misplaced : {place : ℕ} → FirstNotAbove given place → finding_on given right ≡ out_of_order place
  unfolding finding_on
  first_misplaced {place} f = rw (misplaced_at given f) (unfold Option-elim in refl)

-- the same for a listing
pub yes_exactly : (conditions : List Constraint) (l : Listing) (given : List ℕ) → is_listing true l ≡ true
    → (finding_on given (right_numbers conditions l) ≡ correct → given ≡ right_numbers conditions l) × (given ≡ right_numbers conditions l → finding_on given (right_numbers conditions l) ≡ correct)
yes_exactly conditions l given e = right_exactly given (right_numbers conditions l) (right_rising conditions l e)

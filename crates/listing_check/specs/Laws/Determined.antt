-- The contract determines the answer. Assumes nothing.
use Rattle.refusals.specs.Laws.Numbers.{number_injective}
use Rattle.refusals.specs.declared.Refusal.{Refusal}
use Rattle.std.specs.Prelude.{◌≡◌, Result, Ok, Err, Some, None, Option as Optional}
use Rattle.listing_check.specs.Laws.Prelude.{ℕ, refl, sym, ap, ◌∙◌, true, List, arith, Constraint, parses_determined, Mistake, Misplaced, Wrong}
use Rattle.listing_check.specs.Answers.{check_view, AnswersChecked}

-- the view of an answer determines the answer
check_view_injective : (a b : Result (Optional Mistake) Refusal) → check_view a ≡ check_view b → a ≡ b
unfolding check_view
check_view_injective (Ok None) (Ok None) e = refl
check_view_injective (Ok None) (Ok (Some (Misplaced n))) e = absurd (let z : ◌≡◌ {A = ℕ} 0 1 = cc in omega arith)
check_view_injective (Ok None) (Ok (Some (Wrong n))) e = absurd (let z : ◌≡◌ {A = ℕ} 0 1 = cc in omega arith)
check_view_injective (Ok None) (Err q) e = absurd (let z : ◌≡◌ {A = ℕ} 0 1 = cc in omega arith)
check_view_injective (Ok (Some (Misplaced m))) (Ok None) e = absurd (let z : ◌≡◌ {A = ℕ} 0 1 = cc in omega arith)
check_view_injective (Ok (Some (Misplaced m))) (Ok (Some (Misplaced n))) e = cc
check_view_injective (Ok (Some (Misplaced m))) (Ok (Some (Wrong n))) e = absurd (let z : ◌≡◌ {A = ℕ} 0 1 = cc in omega arith)
check_view_injective (Ok (Some (Misplaced m))) (Err q) e = absurd (let z : ◌≡◌ {A = ℕ} 0 1 = cc in omega arith)
check_view_injective (Ok (Some (Wrong m))) (Ok None) e = absurd (let z : ◌≡◌ {A = ℕ} 0 1 = cc in omega arith)
check_view_injective (Ok (Some (Wrong m))) (Ok (Some (Misplaced n))) e = absurd (let z : ◌≡◌ {A = ℕ} 0 1 = cc in omega arith)
check_view_injective (Ok (Some (Wrong m))) (Ok (Some (Wrong n))) e = cc
check_view_injective (Ok (Some (Wrong m))) (Err q) e = absurd (let z : ◌≡◌ {A = ℕ} 0 1 = cc in omega arith)
check_view_injective (Err r) (Ok None) e = absurd (let z : ◌≡◌ {A = ℕ} 0 1 = cc in omega arith)
check_view_injective (Err r) (Ok (Some (Misplaced n))) e = absurd (let z : ◌≡◌ {A = ℕ} 0 1 = cc in omega arith)
check_view_injective (Err r) (Ok (Some (Wrong n))) e = absurd (let z : ◌≡◌ {A = ℕ} 0 1 = cc in omega arith)
check_view_injective (Err r) (Err q) e = ap Err (number_injective r q cc)

pub checked_determined : {text given : List ℕ} {conditions : List Constraint} {a b : Result (Optional Mistake) Refusal} → AnswersChecked text conditions given a → AnswersChecked text conditions given b → a ≡ b
checked_determined {a = a} {b = b} x y = check_view_injective a b (x.answers ∙ rw (parses_determined true x.shown y.shown) (sym y.answers))

-- The contract of both directions determines what is returned and the output. Assumes nothing.
use Rattle.std.specs.Prelude.{ℕ, List, ◌≡◌, Result}
use Rattle.abi.specs.Encoding.{returned}
use Rattle.refusals.specs.declared.Refusal.{Refusal}
use Rattle.refusals.specs.Refusals.{answer_view}
use Rattle.refusals.specs.Laws.Determined.{Same}
use Rattle.vault.specs.Columns.{Rearranged}
use Rattle.vault.specs.Laws.Determined.{rearranged_determined}
use Rattle.abi.specs.Laws.Determined.{SameNumber, number_determined}

pub columns_determined : (order : ℕ → List ℕ → List ℕ) (width : ℕ) (cells output output₁ output₂ : List ℕ) {r₁ r₂ : ℕ}
    → ((a : Result (Unit {0}) Refusal) × Rearranged order width cells output a output₁ × (r₁ ≡ returned (answer_view a))) → ((a : Result (Unit {0}) Refusal) × Rearranged order width cells output a output₂ × (r₂ ≡ returned (answer_view a)))
    → SameNumber (answer_view {A = Unit {0}}) (λ x y. Same x y output₁ output₂) r₁ r₂
columns_determined order width cells output output₁ output₂ = number_determined (λ x y. rearranged_determined)

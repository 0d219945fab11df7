-- The contract of key lookup determines what is returned and stored as far as the law of the library determines its answer. Assumes
-- nothing.
use Rattle.std.specs.Prelude.{ℕ, List, length}
use Rattle.refusals.specs.Laws.Determined.{SameAnswer}
use Rattle.table.specs.declared.Header.{Header}
use Rattle.refusals.specs.Refusals.{found_view}
use Rattle.table.specs.Refusing.{lookup_refusal}
use Rattle.table.specs.Outcomes.{LookedUp}
use Rattle.table.proofs.Laws.Determined.{KnownKeys, looked_up_determined}
use Rattle.abi.specs.Encoding.{encode_option, Answers}
use Rattle.abi.specs.Laws.Determined.{SameOutcome, answers_determined}

pub get_row_determined : (h : Header) (rows keys key words words₁ words₂ : List ℕ) {r₁ r₂ : ℕ}
    → Answers (λ a. LookedUp h rows keys key a) found_view encode_option words r₁ words₁ → Answers (λ a. LookedUp h rows keys key a) found_view encode_option words r₂ words₂
    → SameOutcome (found_view {A = ℕ}) (SameAnswer found_view (lookup_refusal h (length rows) (length keys) (length key)) (KnownKeys h rows keys)) r₁ r₂ words₁ words₂
get_row_determined h rows keys key words words₁ words₂ = answers_determined (λ x y. looked_up_determined)

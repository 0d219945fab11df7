-- The contract determines what is returned and stored as far as the law of the library determines the answer. Assumes nothing.
use Rattle.refusals.specs.Refusals.{found_view}
use Rattle.std.specs.Prelude.{ℕ, List, length}
use Rattle.refusals.specs.Laws.Determined.{SameAnswer}
use Rattle.table.specs.declared.Header.{Header}
use Rattle.table.proofs.Laws.Determined.{KnownKeys}
use Rattle.precedence.specs.declared.Failure.{Failure}
use Rattle.precedence.specs.Precedence.{precedence_refusal, PrecedenceChecked}
use Rattle.precedence.specs.Laws.Determined.{precedence_determined}
use Rattle.abi.specs.Encoding.{Answers}
use Rattle.abi.specs.Laws.Determined.{SameOutcome, answers_determined}
use Rattle.abi_precedence.specs.Encoding.{encode_failure}

pub check_precedence_determined : {words words₁ words₂ : List ℕ} {r₁ r₂ : ℕ} (h : Header) (rows keys : List ℕ) (column : ℕ) (pairs : List ℕ)
    → Answers (λ a. PrecedenceChecked h rows keys column pairs a) found_view encode_failure words r₁ words₁
    → Answers (λ a. PrecedenceChecked h rows keys column pairs a) found_view encode_failure words r₂ words₂
    → SameOutcome (found_view {A = Failure}) (SameAnswer found_view (precedence_refusal h (length rows) (length keys) column (length pairs)) (KnownKeys h rows keys)) r₁ r₂ words₁ words₂
check_precedence_determined h rows keys column pairs = answers_determined (λ x y. precedence_determined)

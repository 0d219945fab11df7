-- The contract of a C function determines what is returned and stored as far as the library's contract determines the answer. Two
-- outcomes that meet it, on the same input, come from two answers that the library's law relates. Answers with the same outcome
-- return the same number, and equal answers store the same words. Assumes nothing.
use Rattle.std.specs.Prelude.{ℕ, ◌≡◌, List}
use Rattle.std.proofs.Common.{sym, ap, ◌∙◌}
use Rattle.refusals.specs.Refusals.{Reply, refused, accepted, outcome, if_accepted}
use Rattle.table.specs.declared.Header.{Header}
use Rattle.abi.specs.Encoding.{encode_header, returned, Answers, AnswersWithHeader}

outcome_returned : {A : Type 0} (a b : Reply A) → outcome a ≡ outcome b → returned a ≡ returned b
unfolding outcome returned
outcome_returned (refused m) (refused n) e = cc
outcome_returned (refused m) (accepted b) e = cc
outcome_returned (accepted a) (refused n) e = cc
outcome_returned (accepted a) (accepted b) e = cc

-- two outcomes, of answers that are equal as far as the library's law states
pub record SameOutcome {R A : Type 0} (view : R → Reply A) (Same : R → R → Type 0) (r₁ r₂ : ℕ) (words₁ words₂ : List ℕ) : Type 0 where
  pub first : R
  pub second : R
  pub same : Same first second
  pub returns : outcome (view first) ≡ outcome (view second) → r₁ ≡ r₂
  pub stores : first ≡ second → words₁ ≡ words₂

pub record SameNumber {R A : Type 0} (view : R → Reply A) (Same : R → R → Type 0) (r₁ r₂ : ℕ) : Type 0 where
  pub first : R
  pub second : R
  pub same : Same first second
  pub returns : outcome (view first) ≡ outcome (view second) → r₁ ≡ r₂

pub record SameWithHeader {R A : Type 0} (view : R → Reply A) (Same : R → R → Type 0) (r₁ r₂ : ℕ) (header₁ header₂ words₁ words₂ : List ℕ) : Type 0 where
  pub first : R
  pub second : R
  pub same : Same first second
  pub returns : outcome (view first) ≡ outcome (view second) → r₁ ≡ r₂
  pub stores_header : first ≡ second → header₁ ≡ header₂
  pub stores : first ≡ second → words₁ ≡ words₂

module _ {R A : Type 0} {view : R → Reply A} {Same : R → R → Type 0} {promise₁ promise₂ : R → Type 0} (law : (a b : R) → promise₁ a → promise₂ b → Same a b) {r₁ r₂ : ℕ} where
  -- of a function whose answer is its number alone
  pub number_determined : ((a : R) × promise₁ a × (r₁ ≡ returned (view a))) → ((b : R) × promise₂ b × (r₂ ≡ returned (view b))) → SameNumber view Same r₁ r₂
  number_determined x y =
      record {
        first = x.0;
        second = y.0;
        same = law x.0 y.0 x.1 y.1;
        returns = λ e. x.2 ∙ outcome_returned _ _ e ∙ sym y.2;
      }

  pub answers_determined : {encode : A → List ℕ} {words words₁ words₂ : List ℕ} → Answers promise₁ view encode words r₁ words₁ → Answers promise₂ view encode words r₂ words₂
      → SameOutcome view Same r₁ r₂ words₁ words₂
  answers_determined {encode} {words} x y =
      record {
        first = x.answer;
        second = y.answer;
        same = law x.answer y.answer x.contract_met y.contract_met;
        returns = λ e. x.stores.returns ∙ outcome_returned _ _ e ∙ sym y.stores.returns;
        stores = λ e. x.stores.stores ∙ ap (λ (a : R). if_accepted (view a) encode words) e ∙ sym y.stores.stores;
      }

  pub answers_with_header_determined : {header_of : A → Header} {encode : A → List ℕ} {header words header₁ header₂ words₁ words₂ : List ℕ}
      → AnswersWithHeader promise₁ view header_of encode header words r₁ header₁ words₁ → AnswersWithHeader promise₂ view header_of encode header words r₂ header₂ words₂
      → SameWithHeader view Same r₁ r₂ header₁ header₂ words₁ words₂
  answers_with_header_determined {header_of} {encode} {header} {words} x y =
      record {
        first = x.answers.answer;
        second = y.answers.answer;
        same = law x.answers.answer y.answers.answer x.answers.contract_met.0 y.answers.contract_met.0;
        returns = λ e. x.answers.stores.returns ∙ outcome_returned _ _ e ∙ sym y.answers.stores.returns;
        stores_header = λ e. x.answers.contract_met.1 ∙ ap (λ (a : R). if_accepted (view a) (λ b. encode_header (header_of b)) header) e ∙ sym y.answers.contract_met.1;
        stores = λ e. x.answers.stores.stores ∙ ap (λ (a : R). if_accepted (view a) encode words) e ∙ sym y.answers.stores.stores;
      }

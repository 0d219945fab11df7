-- The contract of each C function determines what it returns, what it stores and the lent cells as far as the law of the library
-- determines its answer and those cells. Assumes nothing.
use Rattle.std.specs.Prelude.{ℕ, ◌≡◌, Bool, true, false, List}
use Rattle.refusals.specs.Laws.Determined.{Same}
use Rattle.refusals.specs.Refusals.{answer_view}
use Rattle.constraints.specs.declared.Constraint.{Constraint}
use Rattle.listing_spec.specs.Listings.{listing_view, numbered_view, ListingRead, ListingConverted}
use Rattle.listing_spec.specs.Laws.Determined as library
use Rattle.listing_check.specs.Answers.{check_view, AnswersChecked}
use Rattle.listing_check.specs.Laws.Determined.{checked_determined}
use Rattle.table.specs.declared.Header.{Header}
use Rattle.listing_write.specs.Writing.{ListingWritten}
use Rattle.listing_write.specs.Laws.Determined.{written_determined}
use Rattle.abi.specs.Encoding.{encode_number, Answers}
use Rattle.abi.specs.Laws.Determined.{SameOutcome, answers_determined}
use Rattle.abi_listing.specs.Encoding.{encode_finding}

module _ {words words₁ words₂ : List ℕ} {r₁ r₂ : ℕ} (text : List ℕ) where
  module _ (output output₁ output₂ : List ℕ) where
    pub read_listing_determined : Answers (λ a. ListingRead false text output (listing_view a) output₁) listing_view (λ numbers. numbers) words r₁ words₁
        → Answers (λ a. ListingRead false text output (listing_view a) output₂) listing_view (λ numbers. numbers) words r₂ words₂ → SameOutcome listing_view (λ x y. Same x y output₁ output₂) r₁ r₂ words₁ words₂
    read_listing_determined = answers_determined (λ x y. library.listing_determined)

    pub read_numbered_determined : Answers (λ a. ListingRead true text output (numbered_view a) output₁) numbered_view (λ numbers. numbers) words r₁ words₁
        → Answers (λ a. ListingRead true text output (numbered_view a) output₂) numbered_view (λ numbers. numbers) words r₂ words₂ → SameOutcome numbered_view (λ x y. Same x y output₁ output₂) r₁ r₂ words₁ words₂
    read_numbered_determined = answers_determined (λ x y. library.numbered_determined)

    -- both conversions
    pub convert_determined : (numbered : Bool) → Answers (λ a. ListingConverted numbered text output a output₁) answer_view encode_number words r₁ words₁
        → Answers (λ a. ListingConverted numbered text output a output₂) answer_view encode_number words r₂ words₂ → SameOutcome {A = ℕ} answer_view (λ x y. Same x y output₁ output₂) r₁ r₂ words₁ words₂
    convert_determined numbered = answers_determined (λ x y. library.convert_determined)

  pub check_answers_determined : (conditions : List Constraint) (given : List ℕ) → Answers (λ a. AnswersChecked text conditions given a) check_view encode_finding words r₁ words₁
      → Answers (λ a. AnswersChecked text conditions given a) check_view encode_finding words r₂ words₂ → SameOutcome check_view (λ x y. x ≡ y) r₁ r₂ words₁ words₂
  check_answers_determined conditions given = answers_determined (λ x y. checked_determined)

module _ {words words₁ words₂ : List ℕ} {r₁ r₂ : ℕ} (numbered : Bool) (h : Header) (rows output output₁ output₂ : List ℕ) where
  pub write_listing_determined : Answers (λ a. ListingWritten numbered h rows output a output₁) answer_view encode_number words r₁ words₁
      → Answers (λ a. ListingWritten numbered h rows output a output₂) answer_view encode_number words r₂ words₂ → SameOutcome {A = ℕ} answer_view (λ x y. Same x y output₁ output₂) r₁ r₂ words₁ words₂
  write_listing_determined = answers_determined (λ x y. written_determined)

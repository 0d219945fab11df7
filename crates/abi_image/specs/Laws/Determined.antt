-- The contract of each C function determines what it returns, what it stores and the lent cells as far as the law of the library
-- determines its answer and those cells. Assumes nothing.
use Rattle.std.specs.Prelude.{ℕ, ◌≡◌, List}
use Rattle.refusals.specs.Laws.Determined.{Same}
use Rattle.table.specs.declared.Header.{Header}
use Rattle.refusals.specs.Refusals.{answer_view}
use Rattle.table.specs.Outcomes.{Body}
use Rattle.image_spec.specs.Outcomes.{ImageSized, ImageWritten, ImageChecked, ImageRead, TextRead}
use Rattle.image_write.specs.Laws.Determined.{sized_determined, written_determined}
use Rattle.image_check.specs.Laws.Determined.{image_checked_determined}
use Rattle.image_read.specs.Laws.Determined.{SameRead, image_read_determined, text_read_determined}
use Rattle.abi.specs.Encoding.{encode_header, encode_number, Answers}
use Rattle.abi.specs.Laws.Determined.{SameOutcome, answers_determined}

module _ {words words₁ words₂ : List ℕ} {r₁ r₂ : ℕ} where
  pub size_determined : (h : Header) (text : ℕ) → Answers (λ a. ImageSized h text a) answer_view encode_number words r₁ words₁
      → Answers (λ a. ImageSized h text a) answer_view encode_number words r₂ words₂ → SameOutcome {A = ℕ} answer_view (λ x y. x ≡ y) r₁ r₂ words₁ words₂
  size_determined h text = answers_determined (λ x y. sized_determined)

  pub write_determined : (h : Header) (rows sorts pending text image image₁ image₂ : List ℕ)
      → Answers (λ a. ImageWritten h rows sorts pending text image a image₁) answer_view encode_number words r₁ words₁
      → Answers (λ a. ImageWritten h rows sorts pending text image a image₂) answer_view encode_number words r₂ words₂
      → SameOutcome {A = ℕ} answer_view (λ x y. Same x y image₁ image₂) r₁ r₂ words₁ words₂
  write_determined h rows sorts pending text image image₁ image₂ = answers_determined (λ x y. written_determined)

  pub check_determined : (image : List ℕ) → Answers (λ a. ImageChecked image a) answer_view encode_header words r₁ words₁
      → Answers (λ a. ImageChecked image a) answer_view encode_header words r₂ words₂ → SameOutcome {A = Header} answer_view (λ x y. x ≡ y) r₁ r₂ words₁ words₂
  check_determined image = answers_determined (λ x y. image_checked_determined)

  -- but for the slots of the key store that the library's law leaves open
  pub read_determined : (image : List ℕ) (capacity : ℕ) (b : Body) (pending : List ℕ) (b₁ b₂ : Body) (pending₁ pending₂ : List ℕ)
      → Answers (λ a. ImageRead image capacity b pending a b₁ pending₁) answer_view encode_header words r₁ words₁
      → Answers (λ a. ImageRead image capacity b pending a b₂ pending₂) answer_view encode_header words r₂ words₂
      → SameOutcome answer_view (λ x y. SameRead image capacity b pending x b₁ pending₁ y b₂ pending₂) r₁ r₂ words₁ words₂
  read_determined image capacity b pending b₁ b₂ pending₁ pending₂ =
      answers_determined (λ x y. image_read_determined image capacity b pending x b₁ pending₁ y b₂ pending₂)

  pub read_text_determined : (image text text₁ text₂ : List ℕ) → Answers (λ a. TextRead image text a text₁) answer_view encode_number words r₁ words₁
      → Answers (λ a. TextRead image text a text₂) answer_view encode_number words r₂ words₂ → SameOutcome {A = ℕ} answer_view (λ x y. Same x y text₁ text₂) r₁ r₂ words₁ words₂
  read_text_determined image text text₁ text₂ = answers_determined (λ x y. text_read_determined)

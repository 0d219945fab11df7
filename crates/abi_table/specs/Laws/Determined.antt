-- The contract of each C function determines what it returns, what it stores and the lent cells as far as the law of the library
-- determines its answer and those cells. Assumes nothing.
use Rattle.refusals.specs.declared.Refusal.{Refusal}
use Rattle.std.specs.Prelude.{ℕ, ◌≡◌, List, get_or, Bool, Result}
use Rattle.refusals.specs.Laws.Determined.{Same}
use Rattle.plain_table.specs.Staged.{Staged, opening_in}
use Rattle.table.specs.declared.Header.{Header}
use Rattle.table.specs.declared.Merge.{Merge}
use Rattle.refusals.specs.Refusals.{answer_view}
use Rattle.table.specs.Outcomes.{Body, CompactionWords, Opened, Staging, Merging, Compacting, Clearing, Checked, stores}
use Rattle.table.proofs.Laws.Determined.{CallResult, SameOpening, opened_determined, staging_determined, SameMerge, merging_determined, SameCompaction, compacting_determined, SameClear, clearing_determined, checked_determined}
use Rattle.abi.specs.Encoding.{decode_header, encode_header, encode_merge, encode_bool, Answers, AnswersWithHeader}
use Rattle.abi.specs.Laws.Determined.{SameOutcome, SameWithHeader, answers_determined, answers_with_header_determined}

-- an answer with the stores and words that were written
abbrev left : {A : Type 0} → A → Body → CompactionWords → CallResult A
left answer b w = record { answer = answer; body = b; words = w }

abbrev Stores : List ℕ → (Result Header Refusal → Type 0) → ℕ → List ℕ → Type 0
Stores header contract r header' = Answers contract answer_view encode_header header r header'

module _ {header : List ℕ} {r₁ r₂ : ℕ} {header₁ header₂ : List ℕ} where
  pub open_determined : (opening : List ℕ) (b : Body) (pending keys₁ keys₂ : List ℕ)
      → Stores header (λ a. Opened (opening_in opening) (get_or opening 5 0) b pending a keys₁) r₁ header₁ → Stores header (λ a. Opened (opening_in opening) (get_or opening 5 0) b pending a keys₂) r₂ header₂
      → SameOutcome (answer_view {A = Header}) (λ x y. SameOpening (opening_in opening) (get_or opening 5 0) b pending x keys₁ y keys₂) r₁ r₂ header₁ header₂
  open_determined opening b pending keys₁ keys₂ =
      answers_determined (λ x y. opened_determined (opening_in opening) (get_or opening 5 0) b pending x keys₁ y keys₂)

  pub stage_determined : (pending : List ℕ) (staged : Staged) (pending₁ pending₂ : List ℕ)
      → Stores header (λ a. Staging (decode_header header) pending staged a pending₁) r₁ header₁ → Stores header (λ a. Staging (decode_header header) pending staged a pending₂) r₂ header₂
      → SameOutcome (answer_view {A = Header}) (λ x y. Same x y pending₁ pending₂) r₁ r₂ header₁ header₂
  stage_determined pending staged pending₁ pending₂ = answers_determined (λ x y. staging_determined)

  pub compact_determined : (b : Body) (w : CompactionWords) (b₁ b₂ : Body) (w₁ w₂ : CompactionWords)
      → Stores header (λ a. Compacting (decode_header header) b w a b₁ w₁) r₁ header₁ → Stores header (λ a. Compacting (decode_header header) b w a b₂ w₂) r₂ header₂
      → SameOutcome (answer_view {A = Header}) (λ x y. SameCompaction (decode_header header) b w (left x b₁ w₁) (left y b₂ w₂)) r₁ r₂ header₁ header₂
  compact_determined b w b₁ b₂ w₁ w₂ =
      answers_determined (λ x y. compacting_determined (decode_header header) b w (left x b₁ w₁) (left y b₂ w₂))

  pub clear_determined : (keys keys₁ keys₂ : List ℕ)
      → Stores header (λ a. Clearing (decode_header header) keys a keys₁) r₁ header₁ → Stores header (λ a. Clearing (decode_header header) keys a keys₂) r₂ header₂
      → SameOutcome (answer_view {A = Header}) (λ x y. SameClear (decode_header header) keys x keys₁ y keys₂) r₁ r₂ header₁ header₂
  clear_determined keys keys₁ keys₂ = answers_determined (λ x y. clearing_determined (decode_header header) keys x keys₁ y keys₂)

  pub merge_determined : (rows keys sorts pending : List ℕ) (w : CompactionWords) (b₁ b₂ : Body) (w₁ w₂ : CompactionWords) {words words₁ words₂ : List ℕ}
      → AnswersWithHeader (λ a. Merging (stores (decode_header header) rows keys sorts pending) w a b₁ w₁) answer_view (λ m. m.header) encode_merge header words r₁ header₁ words₁
      → AnswersWithHeader (λ a. Merging (stores (decode_header header) rows keys sorts pending) w a b₂ w₂) answer_view (λ m. m.header) encode_merge header words r₂ header₂ words₂
      → SameWithHeader (answer_view {A = Merge}) (λ x y. SameMerge (stores (decode_header header) rows keys sorts pending) w (left x b₁ w₁) (left y b₂ w₂)) r₁ r₂ header₁ header₂ words₁ words₂
  merge_determined rows keys sorts pending w b₁ b₂ w₁ w₂ =
      answers_with_header_determined (λ x y. merging_determined (stores (decode_header header) rows keys sorts pending) w (left x b₁ w₁) (left y b₂ w₂))

pub sound_determined : (h : Header) (rows keys sorts pending : List ℕ) {words words₁ words₂ : List ℕ} {r₁ r₂ : ℕ}
    → Answers (λ a. Checked h rows keys sorts pending a) answer_view encode_bool words r₁ words₁
    → Answers (λ a. Checked h rows keys sorts pending a) answer_view encode_bool words r₂ words₂
    → SameOutcome (answer_view {A = Bool}) (λ x y. x ≡ y) r₁ r₂ words₁ words₂
sound_determined h rows keys sorts pending = answers_determined (λ x y. checked_determined)

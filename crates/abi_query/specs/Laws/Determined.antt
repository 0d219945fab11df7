-- The contract of each C function determines what it returns, what it stores and the lent cells as far as the law of the library
-- determines its answer and those cells. Assumes nothing.
use Rattle.std.specs.Prelude.{ℕ, ◌≡◌, List}
use Rattle.constraints.specs.Encoding.{condition_in}
use Rattle.std.specs.Prelude.{Bool}
use Rattle.refusals.specs.Refusals.{answer_view}
use Rattle.refusals.specs.Laws.Determined.{Same}
use Rattle.offsets.specs.Subsets.{Subset}
use Rattle.constraints.specs.declared.Constraint.{Constraint}
use Rattle.table.specs.declared.Header.{Header}
use Rattle.query_spec.specs.Queries.{page_view, Matched, PageRead, RefinedOne, RefinedList}
use Rattle.query_spec.proofs.Laws.Determined.{refined_one_determined, refined_list_determined, matched_determined, page_read_determined}
use Rattle.abi.specs.Encoding.{encode_bool, subset_head_view, encode_subset, encode_page, Answers}
use Rattle.abi.specs.Laws.Determined.{SameOutcome, answers_determined}

module _ {words words₁ words₂ : List ℕ} {r₁ r₂ : ℕ} (h : Header) (rows : List ℕ) (subset : Subset) where
  pub refine_one_determined : (condition output output₁ output₂ : List ℕ)
      → Answers (λ a. RefinedOne h rows subset (condition_in condition 0) output a output₁) subset_head_view encode_subset words r₁ words₁
      → Answers (λ a. RefinedOne h rows subset (condition_in condition 0) output a output₂) subset_head_view encode_subset words r₂ words₂
      → SameOutcome subset_head_view (λ x y. Same x y output₁ output₂) r₁ r₂ words₁ words₂
  refine_one_determined condition output output₁ output₂ = answers_determined (λ x y. refined_one_determined)

  module _ (conditions : List Constraint) where
    pub refine_ref_determined : (output output₁ output₂ : List ℕ)
        → Answers (λ a. RefinedList h rows subset conditions output a output₁) subset_head_view encode_subset words r₁ words₁
        → Answers (λ a. RefinedList h rows subset conditions output a output₂) subset_head_view encode_subset words r₂ words₂
        → SameOutcome subset_head_view (λ x y. Same x y output₁ output₂) r₁ r₂ words₁ words₂
    refine_ref_determined output output₁ output₂ = answers_determined (λ x y. refined_list_determined)

    pub contains_match_determined : Answers (Matched h rows subset conditions) answer_view encode_bool words r₁ words₁
        → Answers (Matched h rows subset conditions) answer_view encode_bool words r₂ words₂ → SameOutcome {A = Bool} answer_view (λ x y. x ≡ y) r₁ r₂ words₁ words₂
    contains_match_determined = answers_determined (λ x y. matched_determined)

    pub read_page_determined : (place n : ℕ) (output output₁ output₂ : List ℕ)
        → Answers (λ a. PageRead h rows subset place n conditions output a output₁) page_view encode_page words r₁ words₁
        → Answers (λ a. PageRead h rows subset place n conditions output a output₂) page_view encode_page words r₂ words₂
        → SameOutcome page_view (λ x y. Same x y output₁ output₂) r₁ r₂ words₁ words₂
    read_page_determined place n output output₁ output₂ = answers_determined (λ x y. page_read_determined)

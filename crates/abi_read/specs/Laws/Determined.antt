-- The contract of each C function determines what it returns, what it stores and the lent cells as far as the law of the library
-- determines its answer and those cells. Assumes nothing.
use Rattle.std.specs.Prelude.{ℕ, ◌≡◌, true, List, length, get_or}
use Rattle.constraints.specs.Encoding.{condition_in}
use Rattle.refusals.specs.Laws.Determined.{Same, SameAnswer}
use Rattle.offsets.specs.Subsets.{Subset}
use Rattle.offsets.specs.Answers.{Answered, intersect_reply}
use Rattle.offsets.specs.Laws.Subsets.{answered_determined}
use Rattle.sort_entries.specs.Entries.{entries_of, entries_sound}
use Rattle.table.specs.declared.Header.{Header}
use Rattle.table.specs.declared.Version.{Version}
use Rattle.refusals.specs.Refusals.{found_view, answer_view}
use Rattle.table.specs.Numbers.{range_view}
use Rattle.table.specs.Refusing.{cell_refusal, fast_refusal}
use Rattle.table.specs.Outcomes.{CellRead, RangeRead, RowsSince, RowsSinceVersion, VersionRead}
use Rattle.table.proofs.Laws.Determined as library
use Rattle.table.proofs.Laws.Determined.{KnownKeys, cell_read_determined, range_read_determined, version_read_determined, rows_since_determined}
use Rattle.abi.specs.Encoding.{encode_option, encode_range, encode_version, subset_head_view, encode_subset, Answers}
use Rattle.abi.specs.Laws.Determined.{SameOutcome, answers_determined}

module _ {words words₁ words₂ : List ℕ} {r₁ r₂ : ℕ} where
  pub get_row_column_determined : (h : Header) (rows keys key : List ℕ) (column : ℕ)
      → Answers (λ a. CellRead h rows keys key column a) found_view encode_option words r₁ words₁ → Answers (λ a. CellRead h rows keys key column a) found_view encode_option words r₂ words₂
      → SameOutcome (found_view {A = ℕ}) (SameAnswer found_view (cell_refusal h (length rows) (length keys) (length key) column) (KnownKeys h rows keys)) r₁ r₂ words₁ words₂
  get_row_column_determined h rows keys key column = answers_determined (λ x y. cell_read_determined)

  pub fast_subset_determined : (h : Header) (sorts condition : List ℕ)
      → Answers (λ a. RangeRead h sorts (condition_in condition 0) a) range_view encode_range words r₁ words₁ → Answers (λ a. RangeRead h sorts (condition_in condition 0) a) range_view encode_range words r₂ words₂
      → SameOutcome range_view (SameAnswer range_view (fast_refusal h (length sorts) (condition_in condition 0)) (entries_sound (entries_of h.entries sorts) h.rows ≡ true)) r₁ r₂ words₁ words₂
  fast_subset_determined h sorts condition = answers_determined (λ x y. range_read_determined)

  pub updates_since_determined : (h : Header) (row : ℕ)
      → Answers (λ a. RowsSince h row a) range_view encode_range words r₁ words₁ → Answers (λ a. RowsSince h row a) range_view encode_range words r₂ words₂
      → SameOutcome range_view (λ x y. x ≡ y) r₁ r₂ words₁ words₂
  updates_since_determined h row = answers_determined (λ x y. rows_since_determined)

  pub rows_since_version_determined : (h : Header) (version : List ℕ)
      → Answers (λ a. RowsSinceVersion h (get_or version 0 0) (get_or version 1 0) a) range_view encode_range words r₁ words₁ → Answers (λ a. RowsSinceVersion h (get_or version 0 0) (get_or version 1 0) a) range_view encode_range words r₂ words₂
      → SameOutcome range_view (λ x y. x ≡ y) r₁ r₂ words₁ words₂
  rows_since_version_determined h version = answers_determined (λ x y. library.rows_since_version_determined)

  pub table_version_determined : (h : Header) → Answers (λ a. VersionRead h a) answer_view encode_version words r₁ words₁ → Answers (λ a. VersionRead h a) answer_view encode_version words r₂ words₂
      → SameOutcome (answer_view {A = Version}) (λ x y. x ≡ y) r₁ r₂ words₁ words₂
  table_version_determined h = answers_determined (λ x y. version_read_determined)

  -- both intersections
  pub intersect_determined : (a b : Subset) (output output₁ output₂ : List ℕ)
      → Answers (λ x. Answered (intersect_reply a b (length output)) output x output₁) subset_head_view encode_subset words r₁ words₁ → Answers (λ x. Answered (intersect_reply a b (length output)) output x output₂) subset_head_view encode_subset words r₂ words₂
      → SameOutcome subset_head_view (λ x y. Same x y output₁ output₂) r₁ r₂ words₁ words₂
  intersect_determined a b output output₁ output₂ = answers_determined (λ x y. answered_determined)

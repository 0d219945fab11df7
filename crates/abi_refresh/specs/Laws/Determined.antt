-- The contract determines what is returned and stored and the pending store, over a sound index store, as the law of the library
-- does. Assumes nothing.
use Rattle.refusals.specs.Refusals.{answer_view}
use Rattle.std.specs.Prelude.{ℕ, List}
use Rattle.refusals.specs.Laws.Determined.{Same}
use Rattle.plain_table.specs.Refreshing.{Refresh}
use Rattle.refresh_spec.specs.Index.{IndexSound}
use Rattle.refresh_spec.specs.declared.Refreshed.{Refreshed}
use Rattle.refresh_spec.specs.Refreshes.{Refreshing}
use Rattle.refresh_spec.proofs.Laws.Determined.{refreshing_determined}
use Rattle.abi.specs.Encoding.{decode_header, encode_bool, AnswersWithHeader}
use Rattle.abi.specs.Laws.Determined.{SameWithHeader, answers_with_header_determined}

pub refresh_determined : {header words header₁ header₂ words₁ words₂ : List ℕ} {r₁ r₂ : ℕ} (rows pending index : List ℕ) (r : Refresh) (pending₁ index₁ pending₂ index₂ : List ℕ) → IndexSound (decode_header header) rows r.columns index
    → AnswersWithHeader (λ a. Refreshing (decode_header header) rows pending index r a pending₁ index₁) answer_view (λ a. a.header) (λ a. encode_bool a.staged) header words r₁ header₁ words₁
    → AnswersWithHeader (λ a. Refreshing (decode_header header) rows pending index r a pending₂ index₂) answer_view (λ a. a.header) (λ a. encode_bool a.staged) header words r₂ header₂ words₂
    → SameWithHeader (answer_view {A = Refreshed}) (λ x y. Same x y pending₁ pending₂) r₁ r₂ header₁ header₂ words₁ words₂
refresh_determined rows pending index r pending₁ index₁ pending₂ index₂ sound =
    answers_with_header_determined (λ x y u v. refreshing_determined u v sound)

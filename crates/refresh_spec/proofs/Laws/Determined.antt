-- Over a sound index store the contract determines the outcome, except for the inside of that store, which is the program's choice.
-- Over an unsound one, the choice of the staged rows among those that mention a value is open too. Assumes nothing.
use Rattle.refresh_spec.specs.declared.Refreshed.{Refreshed}
use Rattle.refusals.specs.Laws.Numbers.{answer_view_injective}
use Rattle.refusals.specs.declared.Refusal.{Refusal}
use Rattle.std.specs.Prelude.{Result}
use Rattle.refresh_spec.proofs.Laws.Prelude.{ℕ, ◌≡◌, sym, ap, ◌∙◌, ⊎_elim, List, filter_same, some_number, Same, Refresh, mentioning, refreshed, Header, opening_of, of_rows, IndexSound}
use Rattle.refresh_spec.specs.Refreshes.{records_found, Refreshing}
use Rattle.refresh_spec.proofs.Laws.Keeps.{number, found_records}

module _ {h : Header} {rows pending index : List ℕ} {r : Refresh} {a b : Result Refreshed Refusal} {pending₁ index₁ pending₂ index₂ : List ℕ}
    (x : Refreshing h rows pending index r a pending₁ index₁) (y : Refreshing h rows pending index r b pending₂ index₂) (sound : IndexSound h rows r.columns index) where
  same_found : found_records x ≡ found_records y
  unfolding records_found
  same_found =
      ap (refreshed (opening_of h) r.stamp)
      (filter_same (λ row. x.found row.number) (λ row. y.found row.number) (λ row. x.all_found sound row.number ∙ sym (y.all_found sound row.number)) (mentioning r (of_rows h rows)))

  pub refreshing_determined : Same a b pending₁ pending₂
  refreshing_determined =
      record {
        answer = answer_view_injective a b (x.effect.answers ∙ rw same_found (sym y.effect.answers));
        cells =
            ⊎_elim
            (λ none. x.effect.written none ∙ rw same_found (sym (y.effect.written (rw same_found at none))))
            (λ some. x.effect.unchanged some ∙ sym (y.effect.unchanged (rw same_found at some)))
            (some_number (number x));
      }

-- Each query's contract determines the outcome: two outcomes that both meet it, on the same input, have the same answer and the
-- same output. So it excludes every program with another outcome. A query uses only the header and the row store, so no choice is
-- left on any stores. Assumes nothing.
use Rattle.refusals.specs.Laws.Numbers.{answer_view_injective, number_injective}
use Rattle.refusals.specs.declared.Refusal.{Refusal}
use Rattle.std.specs.Prelude.{Result, Ok, Err}
use Rattle.query_spec.proofs.Laws.Prelude.{ℕ, ◌≡◌, sym, ap, ◌∙◌, ⊎_elim, List, some_number, Same, Constraint, Header, Option, Some, None, Page, Bool}
use Rattle.offsets.specs.declared.SubsetForm.{SubsetForm}
use Rattle.offsets.specs.Subsets.{Subset}
use Rattle.offsets.specs.Laws.Subsets.{answered_determined}
use Rattle.query_spec.specs.Queries.{next_view, PageResult, page_view, RefinedOne, RefinedList, Matched, PageRead}

-- answers with the same view are equal
next_view_injective : (a b : Option ℕ) → next_view a ≡ next_view b → a ≡ b
unfolding next_view
next_view_injective None None e = cc
next_view_injective None (Some b) e = cc
next_view_injective (Some a) None e = cc
next_view_injective (Some a) (Some b) e = cc

page_view_injective : (a b : Result Page Refusal) → page_view a ≡ page_view b → a ≡ b
unfolding page_view
page_view_injective (Err r) (Err q) e = ap Err (number_injective r q cc)
page_view_injective (Err r) (Ok q) e = cc
page_view_injective (Ok p) (Err r) e = cc
page_view_injective (Ok p) (Ok q) e =
    let same_view : ◌≡◌ {A = PageResult} (record { written = p.written; dead = p.dead; next = next_view p.next }) (record { written = q.written; dead = q.dead; next = next_view q.next }) = cc in
    let written : p.written ≡ q.written = ap (λ (t : PageResult). t.written) same_view in
    let dead : p.dead ≡ q.dead = ap (λ (t : PageResult). t.dead) same_view in
    let next : p.next ≡ q.next = next_view_injective p.next q.next (ap (λ (t : PageResult). t.next) same_view) in
    λ i. Ok (record { written = written i; dead = dead i; next = next i })

module _ {h : Header} {rows : List ℕ} {subset : Subset} where
  -- *Refine by one*, *by a list*
  pub refined_one_determined : {c : Constraint} {output output₁ output₂ : List ℕ} {a b : Result SubsetForm Refusal}
      → RefinedOne h rows subset c output a output₁ → RefinedOne h rows subset c output b output₂ → Same a b output₁ output₂
  refined_one_determined x y = answered_determined x.answered y.answered

  pub refined_list_determined : {conditions : List Constraint} {output output₁ output₂ : List ℕ} {a b : Result SubsetForm Refusal}
      → RefinedList h rows subset conditions output a output₁ → RefinedList h rows subset conditions output b output₂ → Same a b output₁ output₂
  refined_list_determined x y = answered_determined x.answered y.answered

  -- *any match*
  pub matched_determined : {conditions : List Constraint} {a b : Result Bool Refusal}
      → Matched h rows subset conditions a → Matched h rows subset conditions b → a ≡ b
  matched_determined {a = a} {b = b} x y = answer_view_injective a b (x.answers ∙ sym y.answers)

  -- *Page*
  pub page_read_determined : {start n : ℕ} {conditions : List Constraint} {output output₁ output₂ : List ℕ} {a b : Result Page Refusal}
      → PageRead h rows subset start n conditions output a output₁ → PageRead h rows subset start n conditions output b output₂ → Same a b output₁ output₂
  page_read_determined {a = a} {b = b} x y =
      record {
        answer = page_view_injective a b (x.effect.answers ∙ sym y.effect.answers);
        cells = ⊎_elim (λ z. x.effect.written z ∙ sym (y.effect.written z)) (λ m. x.effect.unchanged m ∙ sym (y.effect.unchanged m)) (some_number _);
      }

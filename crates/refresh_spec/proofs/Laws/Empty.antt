-- "An empty value or column list, if nothing is refused, answers no": from the contract of a refresh alone, whatever the index
-- store holds. Assumes nothing.
use Rattle.refusals.specs.Refusals.{answer_view}
use Rattle.refusals.specs.declared.Refusal.{Refusal}
use Rattle.std.specs.Prelude.{Result}
use Rattle.refresh_spec.proofs.Laws.Prelude.{ℕ, ◌≡◌, refl, sym, ap, ◌∙◌, ◌⊎◌, inl, inr, Bool, false, List, [], ◌∷◌, arith, accepted, some_number, Numbered, live_rows, Header, of_rows}
use Rattle.lists.specs.Lists.{filter, any, elem, flatten}
use Rattle.plain_table.specs.Refreshing.{Refresh, mentions, mentioning, refreshed}
use Rattle.refresh_spec.specs.declared.Refreshed.{Refreshed}
use Rattle.refresh_spec.specs.Refreshes.{records_found, answered, Refreshing}
use Rattle.refresh_spec.proofs.Laws.Keeps.{number, view_accepted, view_refused}

-- nothing is mentioned without values, or without columns
no_value : (columns cells : List ℕ) → mentions columns [] cells ≡ false
unfolding mentions any elem
no_value [] cells = refl
no_value (column ∷ columns) cells = no_value columns cells

none_mentions : (r : Refresh) → (r.columns ≡ []) ⊎ (r.values ≡ []) → (cells : List ℕ) → mentions r.columns r.values cells ≡ false
none_mentions r (inl e) cells = rw e (unfold mentions any in refl)
none_mentions r (inr e) cells = rw e (no_value r.columns cells)

filter_none : (test : Numbered → Bool) → ((row : Numbered) → test row ≡ false) → (l : List Numbered) → filter test l ≡ []
unfolding filter
filter_none test f [] = refl
filter_none test f (row ∷ l) = rw (f row) (filter_none test f l)

nothing_found : (h : Header) (rows : List ℕ) (r : Refresh) (found : ℕ → Bool) → (r.columns ≡ []) ⊎ (r.values ≡ []) → records_found h rows r found ≡ []
unfolding records_found mentioning refreshed filter flatten
nothing_found h rows r found e =
    rw (filter_none (λ row. mentions r.columns r.values row.cells) (λ row. none_mentions r e row.cells) (live_rows (of_rows h rows)))

pub empty_answers_no : {h : Header} {rows pending index : List ℕ} {r : Refresh} {answer : Result Refreshed Refusal} {pending' index' : List ℕ}
    → Refreshing h rows pending index r answer pending' index' → (r.columns ≡ []) ⊎ (r.values ≡ [])
    → (a : Refreshed) → answer_view answer ≡ accepted a → a.staged ≡ false
empty_answers_no {h} {rows} {r = r} m e a view-is =
    elim (some_number (number m)) [
      | inl none ↦
          let q : accepted a ≡ accepted (answered h []) = sym view-is ∙ rw (nothing_found h rows r m.found e) at (view_accepted m none) in
          let same : a ≡ answered h [] = cc in
          ap (λ (x : Refreshed). x.staged) same
      | inr some ↦ let q = view_refused m some in absurd (let z : ◌≡◌ {A = ℕ} 0 1 = cc in omega arith)
    ]

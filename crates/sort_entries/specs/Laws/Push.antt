-- The entries after rows are appended one by one, which are the rebuilt ones. Assumes nothing.
use Rattle.std.specs.Prelude.{◌+◌, ◌≤◌, ◌≡◌, ◌∷◌, ◌++◌}
use Rattle.sort_entries.specs.Laws.Prelude.{ℕ, suc, refl, sym, ap, ◌∙◌, inl, inr, Bool, true, false, cond, true≢false, List, [], append-nil, append_assoc, Option, none, some, zero-add, add-zero, arith, length, length-append, ltb, split}
use Rattle.sort_entries.specs.Entries.{Entry, entry, rebuilt_from, rebuilt}

-- there is no entry, or the last entry's value passes the test
unfoldable pub last_passes : (ℕ → Bool) → List Entry → Bool
last_passes test [] = true
last_passes test (e ∷ []) = test e.value
last_passes test (e ∷ (f ∷ es)) = last_passes test (f ∷ es)

-- the entries after a row with this sort value is appended: one more exactly if the value rises
unfoldable pub push : ℕ → ℕ → List Entry → List Entry
push value row es = cond (last_passes (λ v. ltb v value) es) (es ++ (entry value row ∷ [])) es

-- the entries after rows with these sort values, numbered from `row`, are appended one after another
unfoldable pub push_all : ℕ → List ℕ → List Entry → List Entry
push_all row [] es = es
push_all row (value ∷ values) es = push_all (suc row) values (push value row es)

pub last_snoc : (test : ℕ → Bool) (es : List Entry) (e : Entry) → last_passes test (es ++ (e ∷ [])) ≡ test e.value
unfolding last_passes
last_snoc test [] e = refl
last_snoc test (a ∷ []) e = refl
last_snoc test (a ∷ b ∷ es) e = last_snoc test (b ∷ es) e

pub push_new : (value row : ℕ) (es : List Entry) → last_passes (λ v. ltb v value) es ≡ true → push value row es ≡ es ++ (entry value row ∷ [])
unfolding push
push_new value row es e = rw e

pub push_same : (value row : ℕ) (es : List Entry) → last_passes (λ v. ltb v value) es ≡ false → push value row es ≡ es
unfolding push
push_same value row es e = rw e

-- at most one entry more
pub push_few : (v row : ℕ) (es : List Entry) → length (push v row es) ≤ length es + 1
push_few v row es =
    elim (split (last_passes (λ w. ltb w v) es)) [
      | inl l ↦ rw (push_new v row es l) (simp length-append (omega arith))
      | inr l ↦ rw (push_same v row es l) (omega arith)
    ]

-- and no fewer
pub push_grows : (v row : ℕ) (es : List Entry) → length es ≤ length (push v row es)
push_grows v row es =
    elim (split (last_passes (λ w. ltb w v) es)) [
      | inl l ↦ rw (push_new v row es l) (simp length-append (omega arith))
      | inr l ↦ rw (push_same v row es l) (omega arith)
    ]

pub push_all_snoc : (row : ℕ) (vs : List ℕ) (v : ℕ) (es : List Entry) → push_all row (vs ++ (v ∷ [])) es ≡ push v (row + length vs) (push_all row vs es)
unfolding push_all
push_all_snoc row [] v es = ap (λ (r : ℕ). push v r es) (sym (add-zero row))
push_all_snoc row (x ∷ vs) v es =
    let e : suc row + length vs ≡ row + suc (length vs) = omega arith in
    push_all_snoc (suc row) vs v (push x row es) ∙ ap (λ (r : ℕ). push v r (push_all (suc row) vs (push x row es))) e

-- ---- the rebuilt entries are those of rows that are appended one by one

-- there is no largest value, or it passes the test
abbrev passes : (ℕ → Bool) → Option ℕ → Bool
passes test none = true
passes test (some largest) = test largest

module _ (row value : ℕ) (values : List ℕ) where
  from_new : (largest : Option ℕ) → passes (λ v. ltb v value) largest ≡ true → rebuilt_from row largest (value ∷ values) ≡ entry value row ∷ rebuilt_from (suc row) (some value) values
  unfolding rebuilt_from
  from_new none e = refl
  from_new (some largest) e = rw e

  from_same : (largest : Option ℕ) → passes (λ v. ltb v value) largest ≡ false → rebuilt_from row largest (value ∷ values) ≡ rebuilt_from (suc row) largest values
  unfolding rebuilt_from
  from_same none e = absurd (true≢false e)
  from_same (some largest) e = rw e

-- the largest value is that of the last entry
abbrev Largest : Option ℕ → List Entry → Type 0
Largest largest es = (test : ℕ → Bool) → last_passes test es ≡ passes test largest

push_all_from : (row : ℕ) (values : List ℕ) (largest : Option ℕ) (es : List Entry) → Largest largest es → push_all row values es ≡ es ++ rebuilt_from row largest values
unfolding push_all rebuilt_from
push_all_from row [] largest es l = sym (append-nil es)
push_all_from row (value ∷ values) largest es l =
    elim (split (passes (λ v. ltb v value) largest)) [
      | inl p ↦
          let snoc : Largest (some value) (es ++ (entry value row ∷ [])) = λ test. last_snoc test es (entry value row) in
          rw (push_new value row es (l (λ v. ltb v value) ∙ p), from_new row value values largest p)
          (push_all_from (suc row) values (some value) (es ++ (entry value row ∷ [])) snoc
          ∙ append_assoc es (entry value row ∷ []) (rebuilt_from (suc row) (some value) values))
      | inr p ↦
          rw (push_same value row es (l (λ v. ltb v value) ∙ p), from_same row value values largest p)
          (push_all_from (suc row) values largest es l)
    ]

pub rebuilt_push_all : (values : List ℕ) → rebuilt values ≡ push_all 0 values []
unfolding rebuilt
rebuilt_push_all values = sym (push_all_from 0 values none [] (λ test. unfold last_passes in refl))

pub rebuilt_snoc : (vs : List ℕ) (v : ℕ) → rebuilt (vs ++ (v ∷ [])) ≡ push v (length vs) (rebuilt vs)
rebuilt_snoc vs v =
    rw (rebuilt_push_all (vs ++ (v ∷ [])), rebuilt_push_all vs)
    (push_all_snoc 0 vs v [] ∙ ap (λ (r : ℕ). push v r (push_all 0 vs [])) (zero-add (length vs)))

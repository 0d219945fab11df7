-- The live row of a key: `lookup` finds exactly the live row that has the key. Assumes nothing.
use Rattle.plain_table.proofs.Laws.Prelude.{ℕ, suc, ◌+◌, ◌<◌, ◌≡◌, refl, sym, ap, ap₂, ◌∙◌, inl, inr, true, false, false≢true, List, [], ◌∷◌, Option, none, some, arith, length, get_or, split, and_left, and_right, all_get_d, all_cons, has_key, row_of}
use Rattle.lists.specs.Lists.{all, find}
use Rattle.plain_table.specs.Plain.{Row, Plain, Numbered, live_from, live_rows, lookup, live_with_key}
use Rattle.plain_table.proofs.Laws.Rows.{no_row, free_row, live_with_key_live, live_below_lem}

module _ (keys : ℕ) (key : List ℕ) where
  -- the first of these rows, numbered from n, that is live and has the key
  abbrev found : ℕ → List Row → Option Numbered
  found n rows = find (λ row. has_key keys key row.cells) (live_from n rows)

  found_yes : (n : ℕ) (row : Row) (rows : List Row) → live_with_key keys key row ≡ true → found n (row ∷ rows) ≡ some (record { number = n; cells = row.cells })
  unfolding find live_from live_with_key
  found_yes n row rows e =
      let l : row.live ≡ true = and_left _ _ e in
      let k : has_key keys key row.cells ≡ true = and_right row.live _ e in
      rw (l, k)

  found_no : (n : ℕ) (row : Row) (rows : List Row) → live_with_key keys key row ≡ false → found n (row ∷ rows) ≡ found (suc n) rows
  unfolding find live_from live_with_key
  found_no n row rows e =
      elim (split row.live) [
        | inl l ↦ let k : has_key keys key row.cells ≡ false = rw l at e in rw (l, k)
        | inr l ↦ rw l
      ]

  found_none : (n : ℕ) (rows : List Row) → found n rows ≡ none → all (free_row keys key) rows ≡ true
  found_none n [] e = unfold all in refl
  found_none n (row ∷ rows) e =
      elim (split (live_with_key keys key row)) [
        | inl q ↦ let f = found_yes n row rows q in absurd (let z : ◌≡◌ {A = ℕ} 0 1 = cc in omega arith)
        | inr q ↦ all_cons (free_row keys key) row rows (rw q) (found_none (suc n) rows (sym (found_no n row rows q) ∙ e))
      ]

  found_at : (n : ℕ) (rows : List Row) (r : Numbered) → found n rows ≡ some r
      → (i : ℕ) × (r.number ≡ n + i) × (i < length rows) × (live_with_key keys key (get_or rows i no_row) ≡ true) × ((get_or rows i no_row).cells ≡ r.cells)
  unfolding find live_from
  found_at n [] r e = absurd (let z : ◌≡◌ {A = ℕ} 0 1 = cc in omega arith)
  found_at n (row ∷ rows) r e =
      elim (split (live_with_key keys key row)) [
        | inl q ↦
            let f : some (record { number = n; cells = row.cells }) ≡ some r = sym (found_yes n row rows q) ∙ e in
            let g : record { number = n; cells = row.cells } ≡ r = cc in
            let number : n ≡ r.number = ap (λ (x : Numbered). x.number) g in
            (0, omega arith, omega arith, q, ap (λ (x : Numbered). x.cells) g)
        | inr q ↦
            let t = found_at (suc n) rows r (sym (found_no n row rows q) ∙ e) in
            (suc t.0, omega (arith, t.1), omega (arith, t.2), t.3, t.4)
      ]

module _ (p : Plain) (key : List ℕ) where
  -- if nothing is found, no live row has the key
  pub lookup_none : lookup p key ≡ none → all (free_row p.opening.keys key) p.rows ≡ true
  unfolding lookup live_rows
  lookup_none e = found_none p.opening.keys key 0 p.rows e

  -- the row that is found exists, is live and has the key
  pub lookup_at : (r : Numbered) → lookup p key ≡ some r
      → (r.number < length p.rows) × (live_with_key p.opening.keys key (row_of p r.number) ≡ true) × ((row_of p r.number).cells ≡ r.cells)
  unfolding lookup live_rows
  lookup_at r e =
      let t = found_at p.opening.keys key 0 p.rows r e in
      let i : r.number ≡ t.0 = omega (arith, t.1) in
      rw i (t.2, t.3, t.4)

  -- if no live row has the key, nothing is found
  pub none_lookup : ((i : ℕ) → live_with_key p.opening.keys key (row_of p i) ≡ true → ⊥) → lookup p key ≡ none
  none_lookup f = go (lookup p key) refl
    where
      go : (o : Option Numbered) → lookup p key ≡ o → o ≡ none
      go none q = refl
      go (some r) q = absurd (f r.number (lookup_at r q).1)

  -- if exactly one live row has the key, it is found
  pub one_lookup : (i : ℕ) → live_with_key p.opening.keys key (row_of p i) ≡ true
      → ((j : ℕ) → live_with_key p.opening.keys key (row_of p j) ≡ true → j ≡ i)
      → lookup p key ≡ some (record { number = i; cells = (row_of p i).cells })
  one_lookup i e only = go (lookup p key) refl
    where
      go : (o : Option Numbered) → lookup p key ≡ o → o ≡ some (record { number = i; cells = (row_of p i).cells })
      go none q =
          let below = live_below_lem p.rows i (live_with_key_live p.opening.keys key (row_of p i) e) in
          let free : free_row p.opening.keys key (row_of p i) ≡ true = all_get_d (free_row p.opening.keys key) p.rows (lookup_none q) i below no_row in
          absurd (false≢true (rw e at free))
      go (some r) q =
          let t = lookup_at r q in
          let n : r.number ≡ i = only r.number t.1 in
          ap some (ap₂ (λ (number : ℕ) (cells : List ℕ). record { number = number; cells = cells }) n (sym t.2 ∙ ap (λ (k : ℕ). (row_of p k).cells) n))

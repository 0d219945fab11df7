-- The position of a value, from the result of the binary search. Assumes nothing.
use Rattle.sort_entries.proofs.Prelude.{ℕ, ◌+◌, ◌-◌, ◌*◌, ◌≤◌, ◌<◌, ◌≡◌, refl, sym, ap, ap₂, ◌∙◌, ◌⊎◌, inl, inr, Bool, true, false, cond, List, ℕ_discrete, arith, length, drop, get_or, eqb, ne_eqb, entries_of, first_row, entries_sound, length_entries_of, value_of, value_word, row_word, sound_climb, sound_facts, first_row_drop, first_row_past, place_found, place_absent, Result, Ok, Err, Range, SearchResultIs, Ranged, position_found, range_of}
use Rattle.offsets.specs.Subsets.{Subset, range}
use Rattle.offsets.specs.inner.Search.{Bracketed}
use Rattle.sort_entries.specs.Laws.Positions.{Position, found, absent, range_at, fast_range_at}

-- ---- the row of the entry at a position

pub row_at : (store : List ℕ) (n rows k : ℕ) → k < n → get_or store (2 * k + 1) 0 ≡ first_row (drop k (entries_of n store)) rows
row_at store n rows k h =
    let q : k < length (entries_of n store) = rw (length_entries_of n store) h in
    sym (first_row_drop (entries_of n store) k rows q ∙ row_word store n k h)

pub row_past : (store : List ℕ) (n rows k : ℕ) → n ≤ k → rows ≡ first_row (drop k (entries_of n store)) rows
row_past store n rows k h =
    let q : length (entries_of n store) ≤ k = rw (length_entries_of n store) h in
    sym (first_row_past (entries_of n store) k rows q)

-- ---- the position of the value

module _ (store : List ℕ) (n rows v at : ℕ) (l : Bracketed store 2 0 n v at at) where
  inside : at ≤ length (entries_of n store)
  inside = rw (length_entries_of n store) l.upto

  -- the entries before the position are below the value: the last of them is, and values rise
  before : entries_sound (entries_of n store) rows ≡ true → (i : ℕ) → i < at → value_of (entries_of n store) i < v
  before s i h =
      let r = sound_facts (entries_of n store) rows s in
      let z : at - 1 + 1 ≡ at = omega arith in
      let m = l.upto in
      let a = l.below (at - 1) (omega arith) z in
      let b = value_word store n (at - 1) (omega arith) in
      elim (ℕ_discrete i (at - 1)) [
        | yes e ↦ rw e (omega arith)
        | no e ↦
            let k : at - 1 < length (entries_of n store) = rw (length_entries_of n store) (omega arith) in
            let c = r.rise i (at - 1) (omega arith) k in
            omega arith
      ]

  pub search_found : (first next : ℕ) → first ≡ first_row (drop at (entries_of n store)) rows → next ≡ first_row (drop (at + 1) (entries_of n store)) rows
      → at < n → get_or store (2 * at) 0 ≡ v → SearchResultIs store n rows v (Ok (record { start = first; end = next }))
  search_found first next p q h e =
      record {
        is = λ s.
            let k : at < length (entries_of n store) = rw (length_entries_of n store) h in
            ap₂ found p q ∙ sym (place_found v (entries_of n store) rows at inside (before s) k (value_word store n at h ∙ e));
      }

  pub search_absent : (first : ℕ) → first ≡ first_row (drop at (entries_of n store)) rows → (at < n → get_or store (2 * at) 0 ≡ v → ⊥) → SearchResultIs store n rows v (Err first)
  search_absent first p ne =
      record {
        is = λ s. ap absent p ∙ sym (place_absent v (entries_of n store) rows at inside (before s) over);
      }
    where
      over : at < length (entries_of n store) → v < value_of (entries_of n store) at
      over k =
          let h : at < n = rw (length_entries_of n store) at k in
          let a = l.above h in
          let b = value_word store n at h in
          let c = ne h in
          omega arith

-- ---- the last match arm of `range_absent`: kinds 3 and 5

either_way : (t : Bool) (s : Subset) → s ≡ cond t s s
either_way true s = refl
either_way false s = refl

pub absent_rest : (kind g rows : ℕ) → (kind ≡ 1 → ⊥) → ((kind ≡ 2) ⊎ (kind ≡ 4) → ⊥) → range g rows ≡ range_at kind (absent g) rows
unfolding range_at
absent_rest kind g rows a b =
    rw (ne_eqb kind 1 a, ne_eqb kind 2 (λ e. b (inl e)), ne_eqb kind 4 (λ e. b (inr e))) (either_way (eqb kind 3) (range g rows))

-- ---- the fast range

pub ranged : (store : List ℕ) (n rows kind v : ℕ) (s t : Result Range ℕ) (r : Range) → SearchResultIs store n rows v s → s ≡ t → range_of r ≡ range_at kind (position_found t) rows → Ranged store n rows kind v r
ranged store n rows kind v s t r p q e =
    record {
      is = λ sound.
          e ∙ ap (λ (x : Result Range ℕ). range_at kind (position_found x) rows) (sym q) ∙ ap (λ (x : Position). range_at kind x rows) (p.is sound)
          ∙ sym (fast_range_at kind v (entries_of n store) rows (sound_climb (entries_of n store) rows sound));
    }

-- The steps of the checks: an entry after another, and the rows with the entries. Assumes nothing.
use Rattle.sort_entries.proofs.Prelude.{ℕ, suc, ◌+◌, ◌-◌, ◌*◌, ◌≤◌, ◌<◌, ◌≡◌, refl, sym, ap, ◌∙◌, inl, inr, Bool, true, false, ◌&&◌, List, [], ◌∷◌, sub-zero, add-one, arith, length, drop, get_or, length-drop, drop_of_length-le, drop-cons, eqb, ltb, ltb-true, ltb-false, le-leb, lt-leb, split, get_d_row_at, first_cell, length_entries_of, value_of, entry_row, value_word, row_word, sound_first, sound_facts, sound_of}
use Rattle.lists.specs.Lists.{all, iota}
use Rattle.cells.specs.Cells.{is_dead}
use Rattle.constraints.specs.Constraints.{is_live}
use Rattle.sort_entries.specs.Entries.{Entry, entry, entries_of, first_row, value_at, entries_sound}
use Rattle.sort_entries.specs.inner.Checks.{Decides, decides_yes, decides_no, Follows, Advanced, head_value, cell_sound, cells_sound}

-- ---- one entry

module _ (store : List ℕ) (rows i : ℕ) where
  pub past_rows_lem : rows ≤ get_or store (2 * i + 1) 0 → Decides (Follows store rows i) false
  past_rows_lem h = decides_no (λ f. let a = f.inside in omega arith)

  pub first_entry : get_or store (2 * i + 1) 0 < rows → i ≡ 0 → Decides (Follows store rows i) true
  first_entry h z = decides_yes (record { inside = h; value = λ k e. absurd (omega arith); row = λ k e. absurd (omega arith) })

  -- the entry before, as the code reads it
  before_value : (k : ℕ) → k + 1 ≡ i → get_or store (2 * k) 0 ≡ get_or store (2 * i - 2) 0
  before_value k e = let z : 2 * k ≡ 2 * i - 2 = omega arith in rw z

  before_row : (k : ℕ) → k + 1 ≡ i → get_or store (2 * k + 1) 0 ≡ get_or store (2 * i - 1) 0
  before_row k e = let z : 2 * k + 1 ≡ 2 * i - 1 = omega arith in rw z

  pub no_rise : (i ≡ 0 → ⊥) → get_or store (2 * i) 0 ≤ get_or store (2 * i - 2) 0 → Decides (Follows store rows i) false
  no_rise ne h =
      let z : i - 1 + 1 ≡ i = omega arith in
      let e = before_value (i - 1) z in
      decides_no (λ f. let a = f.value (i - 1) z in omega arith)

  pub next_entry : get_or store (2 * i + 1) 0 < rows → (i ≡ 0 → ⊥) → get_or store (2 * i - 2) 0 < get_or store (2 * i) 0
      → Decides (Follows store rows i) (ltb (get_or store (2 * i - 1) 0) (get_or store (2 * i + 1) 0))
  next_entry h ne up =
      record {
        yes = λ t.
            let l = ltb-true _ _ t in
            record {
              inside = h;
              value = λ k e. rw (before_value k e) up;
              row = λ k e. rw (before_row k e) l;
            };
        no = λ t f.
            let l = ltb-false (get_or store (2 * i - 1) 0) (get_or store (2 * i + 1) 0) t in
            let z : i - 1 + 1 ≡ i = omega arith in
            let a = f.row (i - 1) z in
            let e = before_row (i - 1) z in
            omega arith;
      }

-- ---- all entries

module _ (store : List ℕ) (n rows : ℕ) where
  -- sound entries follow one another
  sound_follows : entries_sound (entries_of n store) rows ≡ true → (i : ℕ) → i < n → Follows store rows i
  sound_follows s i h =
      let f = sound_facts (entries_of n store) rows s in
      let q : i < length (entries_of n store) = rw (length_entries_of n store) h in
      let v = value_word store n i h in
      let r = row_word store n i h in
      record {
        inside = let a = f.below i q in omega arith;
        value = λ k e.
            let a = f.rise k i (omega arith) q in
            let b = value_word store n k (omega arith) in
            omega arith;
        row = λ k e.
            let a = f.later k i (omega arith) q in
            let b = row_word store n k (omega arith) in
            omega arith;
      }

  not_sound : (entries_sound (entries_of n store) rows ≡ true → ⊥) → false ≡ entries_sound (entries_of n store) rows
  not_sound f = elim (split (entries_sound (entries_of n store) rows)) [ inl e ↦ absurd (f e) | inr e ↦ sym e ]

  pub starts_late : (first : ℕ) → first ≡ first_row (entries_of n store) rows → (first ≡ 0 → ⊥) → false ≡ entries_sound (entries_of n store) rows
  starts_late first e ne = not_sound (λ s. ne (e ∙ sound_first (entries_of n store) rows s))

  pub breaks : (i : ℕ) → i < n → (Follows store rows i → ⊥) → false ≡ entries_sound (entries_of n store) rows
  breaks i h f = not_sound (λ s. f (sound_follows s i h))

  pub holds : (first : ℕ) → first ≡ first_row (entries_of n store) rows → first ≡ 0 → ((i : ℕ) → i < n → Follows store rows i)
      → true ≡ entries_sound (entries_of n store) rows
  holds first e z f = sym (sound_of (entries_of n store) rows up on (λ i k. inside i (rw (length_entries_of n store) at k)) (sym e ∙ z))
    where
      up : (i : ℕ) → i + 1 < length (entries_of n store) → value_of (entries_of n store) i < value_of (entries_of n store) (i + 1)
      up i k =
          let q : i + 1 < n = rw (length_entries_of n store) at k in
          let a = (f (i + 1) q).value i refl in
          let b = value_word store n i (omega arith) in
          let c = value_word store n (i + 1) q in
          omega arith

      on : (i : ℕ) → i + 1 < length (entries_of n store) → entry_row (entries_of n store) i < entry_row (entries_of n store) (i + 1)
      on i k =
          let q : i + 1 < n = rw (length_entries_of n store) at k in
          let a = (f (i + 1) q).row i refl in
          let b = row_word store n i (omega arith) in
          let c = row_word store n (i + 1) q in
          omega arith

      inside : (i : ℕ) → i < n → entry_row (entries_of n store) i < rows
      inside i h =
          let a = (f i h).inside in
          let b = row_word store n i h in
          omega arith

-- ---- the entry that holds for a row

pub record Advancing (store : List ℕ) (n from row at : ℕ) : Type 0 where
  pub inside : at ≤ n
  pub later : (j : ℕ) → row ≤ j → value_at j (drop from (entries_of n store)) ≡ value_at j (drop at (entries_of n store))

two : (es : List Entry) (at : ℕ) → at + 1 < length es → drop at es ≡ get_or es at (entry 0 0) ∷ get_or es (at + 1) (entry 0 0) ∷ drop (at + 2) es
two es at h =
    let a : at < length es = omega arith in
    let b : suc at < length es = omega arith in
    let z : suc at ≡ at + 1 = omega arith in
    let y : suc (suc at) ≡ at + 2 = omega arith in
    drop-cons es at (entry 0 0) a
    ∙ ap (λ (l : List Entry). get_or es at (entry 0 0) ∷ l)
    (drop-cons es (suc at) (entry 0 0) b ∙ rw (y, z))

one_less : (es : List Entry) (at : ℕ) → at + 1 < length es → drop (at + 1) es ≡ get_or es (at + 1) (entry 0 0) ∷ drop (at + 2) es
one_less es at h =
    let y : suc (at + 1) ≡ at + 2 = omega arith in
    drop-cons es (at + 1) (entry 0 0) h ∙ rw y

-- the entry after is reached, is not, or there is none
passed : (es : List Entry) (at j : ℕ) → at + 1 < length es → entry_row es (at + 1) ≤ j → value_at j (drop at es) ≡ value_at j (drop (at + 1) es)
passed es at j h k = ap (value_at j) (two es at h) ∙ over ∙ ap (value_at j) (sym (one_less es at h))
  where
    over : value_at j (get_or es at (entry 0 0) ∷ get_or es (at + 1) (entry 0 0) ∷ drop (at + 2) es) ≡ value_at j (get_or es (at + 1) (entry 0 0) ∷ drop (at + 2) es)
    over = unfold value_at in rw (le-leb _ _ k)

ahead : (es : List Entry) (at j : ℕ) → at + 1 < length es → j < entry_row es (at + 1) → value_at j (drop at es) ≡ head_value (drop at es)
ahead es at j h k = ap (value_at j) (two es at h) ∙ shown ∙ ap head_value (sym (two es at h))
  where
    shown : value_at j (get_or es at (entry 0 0) ∷ get_or es (at + 1) (entry 0 0) ∷ drop (at + 2) es) ≡ head_value (get_or es at (entry 0 0) ∷ get_or es (at + 1) (entry 0 0) ∷ drop (at + 2) es)
    shown = unfold value_at head_value in rw (lt-leb _ _ k)

short : (l : List Entry) (j : ℕ) → length l ≤ 1 → value_at j l ≡ head_value l
unfolding value_at head_value
short [] j k = refl
short (a ∷ []) j k = refl
short (a ∷ b ∷ l) j k = absurd (omega arith)

module _ (store : List ℕ) (n from row : ℕ) where
  pub begins : from ≤ n → Advancing store n from row from
  begins h = record { inside = h; later = λ j k. refl }

  module _ (at : ℕ) (s : Advancing store n from row at) where
    -- the row of the entry after, as the code reads it
    row_after : at + 1 < n → entry_row (entries_of n store) (at + 1) ≡ get_or store (2 * at + 3) 0
    row_after h = let z : 2 * (at + 1) + 1 ≡ 2 * at + 3 = omega arith in row_word store n (at + 1) h ∙ ap (λ (k : ℕ). get_or store k 0) z

    pub steps : at + 1 < n → get_or store (2 * at + 3) 0 ≤ row → Advancing store n from row (at + 1)
    steps h k =
        let r = row_after h in
        let q : at + 1 < length (entries_of n store) = rw (length_entries_of n store) h in
        record { inside = omega arith; later = λ j p. s.later j p ∙ passed (entries_of n store) at j q (omega arith) }

    pub stops : at + 1 < n → row < get_or store (2 * at + 3) 0 → Advanced store n from row at
    stops h k =
        let r = row_after h in
        let q : at + 1 < length (entries_of n store) = rw (length_entries_of n store) h in
        record { inside = s.inside; later = s.later; here = ahead (entries_of n store) at row q (omega arith) }

    pub ends : n ≤ at + 1 → Advanced store n from row at
    ends h =
        let m = length_entries_of n store in
        record { inside = s.inside; later = s.later; here = short (drop at (entries_of n store)) row (simp length-drop (omega arith)) }

pub value_at_lem : (store : List ℕ) (n k : ℕ) → k < n → get_or store (2 * k) 0 ≡ head_value (drop k (entries_of n store))
unfolding head_value
value_at_lem store n k h =
    let q : k < length (entries_of n store) = rw (length_entries_of n store) h in
    sym (ap head_value (drop-cons (entries_of n store) k (entry 0 0) q) ∙ value_word store n k h)

pub value_past : (store : List ℕ) (n k : ℕ) → n ≤ k → 0 ≡ head_value (drop k (entries_of n store))
unfolding head_value
value_past store n k h =
    let q : length (entries_of n store) ≤ k = rw (length_entries_of n store) h in
    rw (drop_of_length-le (entries_of n store) q)

-- ---- one row

module _ (store : List ℕ) (columns sort row value : ℕ) where
  pub dead_row_lem : 0 < columns → is_dead (get_or store (row * columns) 0) ≡ true → true ≡ cell_sound store columns sort row value
  unfolding cell_sound is_live
  dead_row_lem h e = rw (first_cell columns row store h, e)

  pub live_row_lem : sort < columns → is_dead (get_or store (row * columns) 0) ≡ false → eqb (get_or store (row * columns + sort) 0) value ≡ cell_sound store columns sort row value
  unfolding cell_sound is_live
  live_row_lem h e =
      let k : 0 < columns = omega arith in
      rw (first_cell columns row store k, e, get_d_row_at columns row store sort 0 h)

-- ---- all rows

module _ (store : List ℕ) (columns sort rows : ℕ) (sorts : List ℕ) (n : ℕ) where
  abbrev passes : ℕ → Bool
  passes row = cell_sound store columns sort row (value_at row (entries_of n sorts))

  -- the rows from i on are still to be checked, with the entries from position `at` on
  pub record Rest (at i : ℕ) : Type 0 where
    pub few : i ≤ rows
    pub inside : at ≤ n
    pub later : (j : ℕ) → i ≤ j → value_at j (entries_of n sorts) ≡ value_at j (drop at (entries_of n sorts))
    pub cells : cells_sound store columns sort rows (entries_of n sorts) ≡ all passes (iota i (rows - i))

  pub rest_begins : Rest 0 0
  unfolding cells_sound
  rest_begins = record { few = omega arith; inside = omega arith; later = λ j h. refl; cells = rw sub-zero }

  each : (i : ℕ) → i < rows → all passes (iota i (rows - i)) ≡ (passes i && all passes (iota (i + 1) (rows - (i + 1))))
  unfolding all iota
  each i h = let z : rows - i ≡ suc (rows - (i + 1)) = omega arith in rw (z, add-one i)

  module _ (at i : ℕ) (s : Rest at i) (h : i < rows) (next value : ℕ) (a : Advanced sorts n at i next) (e : value ≡ head_value (drop next (entries_of n sorts))) where
    found_value : value_at i (entries_of n sorts) ≡ value
    found_value = s.later i (omega arith) ∙ a.later i (omega arith) ∙ a.here ∙ sym e

    pub rest_breaks : cell_sound store columns sort i value ≡ false → false ≡ cells_sound store columns sort rows (entries_of n sorts)
    rest_breaks q = sym (s.cells ∙ each i h ∙ rw (found_value, q))

    pub rest_steps : cell_sound store columns sort i value ≡ true → Rest next (i + 1)
    rest_steps q =
        record {
          few = omega arith;
          inside = a.inside;
          later = λ j k. s.later j (omega arith) ∙ a.later j (omega arith);
          cells = s.cells ∙ each i h ∙ rw (found_value, q);
        }

  pub rest_ends : (at i : ℕ) → Rest at i → rows ≤ i → true ≡ cells_sound store columns sort rows (entries_of n sorts)
  unfolding all iota
  rest_ends at i s h = let z : rows - i ≡ 0 = omega arith in sym (s.cells ∙ rw z)

-- Sound entries decomposed into facts, and the converse. Assumes nothing.
use Rattle.std.specs.Prelude.{◌+◌, ◌*◌, ◌≤◌, ◌<◌, ◌≡◌, ◌&&◌, ◌∷◌}
use Rattle.sort_entries.specs.Laws.Prelude.{ℕ, ap, true, List, [], map, arith, length, get_or, drop, length-map, List·getD-map, drop_of_length-le, drop-cons, ltb, ltb-true, eqb-true, lt-ltb, eq-eqb, and_left, and_right, all_get_d, all_of, rising_tail, rising_at, rising_of}
use Rattle.lists.specs.Lists.{all, rising, above}
use Rattle.sort_entries.specs.Entries.{Entry, entry, entries_of, first_row, entries_sound}
use Rattle.sort_entries.specs.Laws.Stores.{pair_at, get_d_entries_of}

-- the value and the row at position i
abbrev pub value_of : List Entry → ℕ → ℕ
value_of es i = (get_or es i (entry 0 0)).value

abbrev pub entry_row : List Entry → ℕ → ℕ
entry_row es i = (get_or es i (entry 0 0)).row

abbrev pub values : List Entry → List ℕ
values es = map (λ e. e.value) es

abbrev pub entry_rows : List Entry → List ℕ
entry_rows es = map (λ e. e.row) es

-- entries that rise and are below the row count, the first at any row. A suffix of sound entries is such too
pub record Climb (es : List Entry) (rows : ℕ) : Type 0 where
  pub rise : rising (values es) ≡ true
  pub later : rising (entry_rows es) ≡ true
  pub below : all (λ e. ltb e.row rows) es ≡ true

pub record SoundFacts (es : List Entry) (rows : ℕ) : Type 0 where
  pub rise : (i j : ℕ) → i < j → j < length es → value_of es i < value_of es j
  pub later : (i j : ℕ) → i < j → j < length es → entry_row es i < entry_row es j
  pub below : (i : ℕ) → i < length es → entry_row es i < rows
  pub first : first_row es rows ≡ 0

module _ (es : List Entry) (rows : ℕ) where
  pub sound_climb : entries_sound es rows ≡ true → Climb es rows
  unfolding entries_sound
  sound_climb s =
      let a = and_left (rising (values es) && rising (entry_rows es) && all (λ e. ltb e.row rows) es) _ s in
      let b = and_left (rising (values es) && rising (entry_rows es)) _ a in
      record {
        rise = and_left (rising (values es)) _ b;
        later = and_right (rising (values es)) _ b;
        below = and_right (rising (values es) && rising (entry_rows es)) _ a;
      }

  pub sound_first : entries_sound es rows ≡ true → first_row es rows ≡ 0
  unfolding entries_sound
  sound_first s =
      eqb-true _ _ (and_right (rising (values es) && rising (entry_rows es) && all (λ e. ltb e.row rows) es) _ s)

  pub sound_join : Climb es rows → first_row es rows ≡ 0 → entries_sound es rows ≡ true
  unfolding entries_sound
  sound_join c z = rw (c.rise, c.later, c.below, eq-eqb _ _ z)

  climb_rise : Climb es rows → (i j : ℕ) → i < j → j < length es → value_of es i < value_of es j
  climb_rise c i j h k =
      let m : j < length (values es) = rw (length-map es (λ e. e.value)) k in
      let a = rising_at (values es) c.rise i j h m in
      let p = List·getD-map (λ (e : Entry). e.value) es i (entry 0 0) in
      let q = List·getD-map (λ (e : Entry). e.value) es j (entry 0 0) in
      omega arith

  climb_later : Climb es rows → (i j : ℕ) → i < j → j < length es → entry_row es i < entry_row es j
  climb_later c i j h k =
      let m : j < length (entry_rows es) = rw (length-map es (λ e. e.row)) k in
      let a = rising_at (entry_rows es) c.later i j h m in
      let p = List·getD-map (λ (e : Entry). e.row) es i (entry 0 0) in
      let q = List·getD-map (λ (e : Entry). e.row) es j (entry 0 0) in
      omega arith

  climb_below : Climb es rows → (i : ℕ) → i < length es → entry_row es i < rows
  climb_below c i h = ltb-true _ _ (all_get_d (λ e. ltb e.row rows) es c.below i h (entry 0 0))

  pub sound_facts : entries_sound es rows ≡ true → SoundFacts es rows
  sound_facts s =
      let c = sound_climb s in
      record { rise = climb_rise c; later = climb_later c; below = climb_below c; first = sound_first s }

  -- comparing neighbours is sufficient
  pub sound_of : ((i : ℕ) → i + 1 < length es → value_of es i < value_of es (i + 1)) → ((i : ℕ) → i + 1 < length es → entry_row es i < entry_row es (i + 1))
      → ((i : ℕ) → i < length es → entry_row es i < rows) → first_row es rows ≡ 0 → entries_sound es rows ≡ true
  sound_of f g b z = sound_join (record { rise = rising_of (values es) up; later = rising_of (entry_rows es) on; below = all_of (λ e. ltb e.row rows) (entry 0 0) es (λ i h. lt-ltb _ _ (b i h)) }) z
    where
      up : (i : ℕ) → i + 1 < length (values es) → get_or (values es) i 0 < get_or (values es) (i + 1) 0
      up i h =
          let k : i + 1 < length es = rw (length-map es (λ e. e.value)) at h in
          let a = f i k in
          let p = List·getD-map (λ (e : Entry). e.value) es i (entry 0 0) in
          let q = List·getD-map (λ (e : Entry). e.value) es (i + 1) (entry 0 0) in
          omega arith

      on : (i : ℕ) → i + 1 < length (entry_rows es) → get_or (entry_rows es) i 0 < get_or (entry_rows es) (i + 1) 0
      on i h =
          let k : i + 1 < length es = rw (length-map es (λ e. e.row)) at h in
          let a = g i k in
          let p = List·getD-map (λ (e : Entry). e.row) es i (entry 0 0) in
          let q = List·getD-map (λ (e : Entry). e.row) es (i + 1) (entry 0 0) in
          omega arith

-- ---- a suffix of rising entries

module _ (e : Entry) (es : List Entry) (rows : ℕ) (c : Climb (e ∷ es) rows) where
  pub climb_tail : Climb es rows
  climb_tail =
      record {
        rise = rising_tail e.value (values es) c.rise;
        later = rising_tail e.row (entry_rows es) c.later;
        below = unfold all in and_right (ltb e.row rows) _ c.below;
      }

  pub climb_in : e.row < rows
  climb_in = climb_below (e ∷ es) rows c 0 (omega arith)

  -- the values after the first are above it
  pub climb_above : above e.value (values es) ≡ true
  climb_above = unfold rising in c.rise

pub climb_next : (e f : Entry) (es : List Entry) (rows : ℕ) → Climb (e ∷ f ∷ es) rows → e.row < f.row
climb_next e f es rows c = climb_later (e ∷ f ∷ es) rows c 0 1 (omega arith) (omega arith)

-- the first row is at most the row count, and at most the row of the next entry
pub first_le : (es : List Entry) (rows : ℕ) → Climb es rows → first_row es rows ≤ rows
unfolding first_row
first_le [] rows c = omega arith
first_le (e ∷ es) rows c = let h = climb_in e es rows c in omega arith

pub first_next : (e : Entry) (es : List Entry) (rows : ℕ) → Climb (e ∷ es) rows → e.row ≤ first_row es rows
unfolding first_row
first_next e [] rows c = let h = climb_in e [] rows c in omega arith
first_next e (f ∷ es) rows c = let h = climb_next e f es rows c in omega arith

-- the first row from a position on is the row at that position
pub first_row_drop : (es : List Entry) (k rows : ℕ) → k < length es → first_row (drop k es) rows ≡ entry_row es k
unfolding first_row
first_row_drop es k rows h = rw (drop-cons es k (entry 0 0) h)

pub first_row_past : (es : List Entry) (k rows : ℕ) → length es ≤ k → first_row (drop k es) rows ≡ rows
unfolding first_row
first_row_past es k rows h = rw (drop_of_length-le es h)

-- the words of a store are the values and rows of its entries
module _ (store : List ℕ) (n i : ℕ) (h : i < n) where
  pub value_word : value_of (entries_of n store) i ≡ get_or store (2 * i) 0
  unfolding pair_at
  value_word = ap (λ (e : Entry). e.value) (get_d_entries_of n store i (entry 0 0) h)

  pub row_word : entry_row (entries_of n store) i ≡ get_or store (2 * i + 1) 0
  unfolding pair_at
  row_word = ap (λ (e : Entry). e.row) (get_d_entries_of n store i (entry 0 0) h)

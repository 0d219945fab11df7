-- The position of a value among sound entries, with an entry of that value or without one, and the fast range as a function of that
-- position. Assumes nothing.
use Rattle.std.specs.Prelude.{◌≤◌, ◌<◌, ◌≡◌, ◌∷◌}
use Rattle.sort_entries.specs.Laws.Prelude.{ℕ, refl, sym, ap, ◌∙◌, true, false, cond, List, [], dec_lt, ℕ_discrete, arith, leb, ltb, eqb, lt-ltb, le-ltb, le-leb, lt-leb, eq-eqb, ne_eqb, above_head, above_tail}
use Rattle.lists.specs.Lists.{filter, any, above}
use Rattle.offsets.specs.Subsets.{Subset, range}
use Rattle.sort_entries.specs.Entries.{Entry, entries_from, first_row, by_kind, fast_range, entries_sound}
use Rattle.sort_entries.specs.Laws.Sound.{values, Climb, sound_climb, climb_tail, climb_above}

-- "f the row of an entry of value v, b the next entry's row or the row count", or, without such an entry, "g the row of the first
-- entry above v or the row count"
pub data Position : Type 0 where
  found : ℕ → ℕ → Position
  absent : ℕ → Position

unfoldable pub position : ℕ → List Entry → ℕ → Position
position v [] rows = absent rows
position v (e ∷ es) rows =
    cond (ltb e.value v) (position v es rows) (cond (eqb e.value v) (found e.row (first_row es rows)) (absent e.row))

-- the range of a condition of kind 1 to 5
unfoldable pub range_at : ℕ → Position → ℕ → Subset
unfolding by_kind
range_at kind (found f b) rows = by_kind kind (range f b) (range 0 f) (range b rows) (range 0 b) (range f rows)
range_at kind (absent g) rows = by_kind kind (range 0 0) (range 0 g) (range g rows) (range 0 g) (range g rows)

-- A shorter form of the fast range: f is the row of the first entry not below v, b that of the first above v. Without an entry of
-- value v both are the paper's g, and equal gives 0..0.
unfoldable pub short_range : ℕ → ℕ → List Entry → ℕ → Subset
short_range kind v es rows =
    let f = first_row (filter (λ e. leb v e.value) es) rows in
    let b = first_row (filter (λ e. ltb v e.value) es) rows in
    by_kind kind (cond (any (λ e. eqb e.value v) es) (range f b) (range 0 0)) (range 0 f) (range b rows) (range 0 b) (range f rows)

-- entries above x, for a value v up to x: all are above v, and none has it
record AllAbove (v : ℕ) (es : List Entry) : Type 0 where
  kept : filter (λ e. ltb v e.value) es ≡ es
  unequal : any (λ e. eqb e.value v) es ≡ false
  none_from : entries_from v es ≡ []

all_above : (v x : ℕ) (es : List Entry) → v ≤ x → above x (values es) ≡ true → AllAbove v es
unfolding filter any entries_from
all_above v x [] h a = record { kept = refl; unequal = refl; none_from = refl }
all_above v x (e ∷ es) h a =
    let p : x < e.value = above_head x e.value (values es) a in
    let q : v < e.value = omega arith in
    let r = all_above v e.value es (omega arith) (above_tail x e.value (values es) a) in
    let ne : e.value ≡ v → ⊥ = λ z. omega arith in
    record {
      kept = rw (lt-ltb v e.value q) (ap (λ (l : List Entry). e ∷ l) r.kept);
      unequal = rw (ne_eqb _ _ ne) r.unequal;
      none_from = rw (ne_eqb _ _ ne) r.none_from;
    }

-- a function of the entries that is the range at the position of v: the first entry is below v, has it, or is above it
record AtPosition (kind v rows : ℕ) (F : List Entry → Subset) : Type 0 where
  none : F [] ≡ range_at kind (absent rows) rows
  past : (e : Entry) (es : List Entry) → e.value < v → F (e ∷ es) ≡ F es
  here : (e : Entry) (es : List Entry) → above e.value (values es) ≡ true → e.value ≡ v → F (e ∷ es) ≡ range_at kind (found e.row (first_row es rows)) rows
  higher : (e : Entry) (es : List Entry) → above e.value (values es) ≡ true → v < e.value → F (e ∷ es) ≡ range_at kind (absent e.row) rows

at_position : (kind v rows : ℕ) (F : List Entry → Subset) → AtPosition kind v rows F → (es : List Entry) → Climb es rows → F es ≡ range_at kind (position v es rows) rows
unfolding position
at_position kind v rows F a [] c = a.none
at_position kind v rows F a (e ∷ es) c =
    elim (dec_lt e.value v) [
      | yes p ↦ rw (lt-ltb e.value v p) (a.past e es p ∙ at_position kind v rows F a es (climb_tail e es rows c))
      | no p ↦
          elim (ℕ_discrete e.value v) [
            | yes q ↦ rw (le-ltb e.value v (omega arith), eq-eqb e.value v q) (a.here e es (climb_above e es rows c) q)
            | no q ↦ rw (le-ltb e.value v (omega arith), ne_eqb e.value v q) (a.higher e es (climb_above e es rows c) (omega arith))
          ]
    ]

-- ---- the fast range

module _ (kind v rows : ℕ) where
  -- with an entry of value v, and without one
  fast_with : (es : List Entry) (e : Entry) (next : List Entry) → entries_from v es ≡ e ∷ next → fast_range kind v es rows ≡ range_at kind (found e.row (first_row next rows)) rows
  unfolding fast_range range_at
  fast_with es e next q = rw (fast_range, q)

  fast_without : (es : List Entry) → entries_from v es ≡ [] → fast_range kind v es rows ≡ range_at kind (absent (first_row (filter (λ e. ltb v e.value) es) rows)) rows
  unfolding fast_range range_at
  fast_without es q = rw (fast_range, q)

  from_next : (e : Entry) (es : List Entry) → (e.value ≡ v → ⊥) → entries_from v (e ∷ es) ≡ entries_from v es
  unfolding entries_from
  from_next e es ne = rw (ne_eqb e.value v ne)

  fast_past : (e : Entry) (es : List Entry) → e.value < v → fast_range kind v (e ∷ es) rows ≡ fast_range kind v es rows
  fast_past e es p = by (entries_from v es) refl
    where
      skip : entries_from v (e ∷ es) ≡ entries_from v es
      skip = from_next e es (λ z. omega arith)

      kept : filter (λ x. ltb v x.value) (e ∷ es) ≡ filter (λ x. ltb v x.value) es
      kept = unfold filter in rw (le-ltb v e.value (omega arith))

      by : (l : List Entry) → entries_from v es ≡ l → fast_range kind v (e ∷ es) rows ≡ fast_range kind v es rows
      by [] q =
          fast_without (e ∷ es) (skip ∙ q)
          ∙ ap (λ (l : List Entry). range_at kind (absent (first_row l rows)) rows) kept
          ∙ sym (fast_without es q)
      by (x ∷ l) q = fast_with (e ∷ es) x l (skip ∙ q) ∙ sym (fast_with es x l q)

  fast_here : (e : Entry) (es : List Entry) → above e.value (values es) ≡ true → e.value ≡ v → fast_range kind v (e ∷ es) rows ≡ range_at kind (found e.row (first_row es rows)) rows
  fast_here e es up q = fast_with (e ∷ es) e es (unfold entries_from in rw (eq-eqb e.value v q))

  fast_higher : (e : Entry) (es : List Entry) → above e.value (values es) ≡ true → v < e.value → fast_range kind v (e ∷ es) rows ≡ range_at kind (absent e.row) rows
  unfolding filter first_row
  fast_higher e es up p =
      fast_without (e ∷ es) (from_next e es (λ z. omega arith) ∙ (all_above v e.value es (omega arith) up).none_from)
      ∙ rw (lt-ltb v e.value p)

  fast_at : AtPosition kind v rows (λ es. fast_range kind v es rows)
  fast_at =
      record {
        none = fast_without [] (unfold entries_from in refl) ∙ unfold filter first_row in refl;
        past = fast_past;
        here = fast_here;
        higher = fast_higher;
      }

pub fast_range_at : (kind v : ℕ) (es : List Entry) (rows : ℕ) → Climb es rows → fast_range kind v es rows ≡ range_at kind (position v es rows) rows
fast_range_at kind v es rows c = at_position kind v rows (λ l. fast_range kind v l rows) (fast_at kind v rows) es c

-- ---- the shorter form

module _ (kind v rows : ℕ) where
  short_past : (e : Entry) (es : List Entry) → e.value < v → short_range kind v (e ∷ es) rows ≡ short_range kind v es rows
  unfolding short_range filter any
  short_past e es p =
      let ne : e.value ≡ v → ⊥ = λ z. omega arith in
      rw (lt-leb v e.value p, le-ltb v e.value (omega arith), ne_eqb e.value v ne)

  short_here : (e : Entry) (es : List Entry) → above e.value (values es) ≡ true → e.value ≡ v → short_range kind v (e ∷ es) rows ≡ range_at kind (found e.row (first_row es rows)) rows
  unfolding short_range range_at filter any first_row
  short_here e es up q =
      rw (le-leb v e.value (omega arith), le-ltb v e.value (omega arith), eq-eqb e.value v q, (all_above v e.value es (omega arith) up).kept)

  short_higher : (e : Entry) (es : List Entry) → above e.value (values es) ≡ true → v < e.value → short_range kind v (e ∷ es) rows ≡ range_at kind (absent e.row) rows
  unfolding short_range range_at filter any first_row
  short_higher e es up p =
      let ne : e.value ≡ v → ⊥ = λ z. omega arith in
      rw (le-leb v e.value (omega arith), lt-ltb v e.value p, ne_eqb e.value v ne, (all_above v e.value es (omega arith) up).unequal)

  short_at : AtPosition kind v rows (λ es. short_range kind v es rows)
  short_at = record { none = unfold short_range filter any first_row range_at in refl; past = short_past; here = short_here; higher = short_higher }

-- the fast range of sound entries has the shorter form
pub fast_range_short : (kind v : ℕ) (es : List Entry) (rows : ℕ) → entries_sound es rows ≡ true → fast_range kind v es rows ≡ short_range kind v es rows
fast_range_short kind v es rows s =
    fast_range_at kind v es rows (sound_climb es rows s)
    ∙ sym (at_position kind v rows (λ l. short_range kind v l rows) (short_at kind v rows) es (sound_climb es rows s))

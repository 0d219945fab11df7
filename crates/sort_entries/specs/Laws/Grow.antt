-- Laws of appending one entry: the value at each row, soundness, and the effect of `push`. Assumes nothing.
use Rattle.std.specs.Prelude.{◌+◌, ◌-◌, ◌≤◌, ◌<◌, ◌≡◌, ◌∷◌, ◌++◌}
use Rattle.sort_entries.specs.Laws.Prelude.{ℕ, refl, sym, ◌∙◌, inl, inr, Bool, true, false, true≢false, List, [], arith, length, leb, ltb, ltb-true, ltb-false, leb-true, lt-ltb, le-leb, lt-leb, split, and_left, and_right, above_head, above_tail, above_cons, all_snoc, all_weaker}
use Rattle.lists.specs.Lists.{all, rising, above}
use Rattle.sort_entries.specs.Entries.{Entry, entry, first_row, value_at, entries_sound}
use Rattle.sort_entries.specs.Laws.Push.{last_passes, push, push_new, push_same}
use Rattle.sort_entries.specs.Laws.Sound.{values, entry_rows, Climb, sound_climb, sound_first, sound_join}

-- ---- the value at a row, with one more entry

pub value_at_before : (i : ℕ) (es : List Entry) (e : Entry) → 0 < length es → i < e.row → value_at i (es ++ (e ∷ [])) ≡ value_at i es
unfolding value_at
value_at_before i [] e h k = absurd (omega arith)
value_at_before i (a ∷ []) e h k = rw (lt-leb e.row i k)
value_at_before i (a ∷ b ∷ es) e h k = rw (value_at_before i (b ∷ es) e (omega arith) k)

-- the row of each entry is below n
abbrev pub Below : List Entry → ℕ → Type 0
Below es n = all (λ e. ltb e.row n) es ≡ true

below_head : (e : Entry) (es : List Entry) (n : ℕ) → Below (e ∷ es) n → e.row < n
unfolding all
below_head e es n q = ltb-true _ _ (and_left _ _ q)

below_tail : (e : Entry) (es : List Entry) (n : ℕ) → Below (e ∷ es) n → Below es n
unfolding all
below_tail e es n q = and_right (ltb e.row n) _ q

pub value_at_new : (i n : ℕ) (es : List Entry) (e : Entry) → Below es n → n ≤ i → e.row ≤ i → value_at i (es ++ (e ∷ [])) ≡ e.value
unfolding value_at
value_at_new i n [] e q h k = refl
value_at_new i n (a ∷ []) e q h k = rw (le-leb e.row i k)
value_at_new i n (a ∷ b ∷ es) e q h k =
    let r = below_head b es n (below_tail a (b ∷ es) n q) in
    let r' : b.row ≤ i = omega arith in
    rw (le-leb b.row i r') (value_at_new i n (b ∷ es) e (below_tail a (b ∷ es) n q) h k)

-- from the last entry's row on, the value is the last entry's
pub value_at_last : (test : ℕ → Bool) (i n : ℕ) (es : List Entry) → 0 < length es → Below es n → n ≤ i + 1 → last_passes test es ≡ test (value_at i es)
unfolding value_at last_passes
value_at_last test i n [] z q h = absurd (omega arith)
value_at_last test i n (a ∷ []) z q h = refl
value_at_last test i n (a ∷ b ∷ es) z q h =
    let r = below_head b es n (below_tail a (b ∷ es) n q) in
    let r' : b.row ≤ i = omega arith in
    rw (le-leb b.row i r') (value_at_last test i n (b ∷ es) (omega arith) (below_tail a (b ∷ es) n q) h)

-- ---- rising entries, with one more

rise_more : (es : List Entry) (v row : ℕ) → rising (values es) ≡ true → last_passes (λ w. ltb w v) es ≡ true → rising (values (es ++ (entry v row ∷ []))) ≡ true
unfolding rising above last_passes
rise_more [] v row r l = refl
rise_more (a ∷ []) v row r l = above_cons a.value v [] (ltb-true a.value v l) refl
rise_more (a ∷ b ∷ es) v row r l =
    above_cons a.value b.value (values (es ++ (entry v row ∷ []))) (above_head a.value b.value (values es) r)
    (rise_more (b ∷ es) v row (above_tail a.value b.value (values es) r) l)

later_more : (es : List Entry) (v row n : ℕ) → rising (entry_rows es) ≡ true → Below es n → n ≤ row → rising (entry_rows (es ++ (entry v row ∷ []))) ≡ true
unfolding rising above
later_more [] v row n r q h = refl
later_more (a ∷ []) v row n r q h =
    let z = below_head a [] n q in
    above_cons a.row row [] (omega arith) refl
later_more (a ∷ b ∷ es) v row n r q h =
    above_cons a.row b.row (entry_rows (es ++ (entry v row ∷ []))) (above_head a.row b.row (entry_rows es) r)
    (later_more (b ∷ es) v row n (above_tail a.row b.row (entry_rows es) r) (below_tail a (b ∷ es) n q) h)

below_more : (es : List Entry) (n m : ℕ) → Below es n → n ≤ m → Below es m
below_more es n m q h = all_weaker (λ e. ltb e.row n) (λ e. ltb e.row m) (λ e p. let a = ltb-true e.row n p in lt-ltb e.row m (omega arith)) es q

pub climb_more : (es : List Entry) (v row n m : ℕ) → Climb es n → last_passes (λ w. ltb w v) es ≡ true → n ≤ row → row < m → Climb (es ++ (entry v row ∷ [])) m
climb_more es v row n m c l h k =
    record {
      rise = rise_more es v row c.rise l;
      later = later_more es v row n c.later c.below h;
      below = all_snoc (λ e. ltb e.row m) es (entry v row) (below_more es n m c.below (omega arith)) (lt-ltb _ _ k);
    }

pub climb_wider : (es : List Entry) (n m : ℕ) → Climb es n → n ≤ m → Climb es m
climb_wider es n m c h = record { rise = c.rise; later = c.later; below = below_more es n m c.below h }

-- ---- `push` of a value for the next row

-- the value is not below the last entry's
unfoldable pub admits : ℕ → List Entry → Bool
admits value es = last_passes (λ v. leb v value) es

-- there is an entry if there is a row
some_entry : (es : List Entry) (n : ℕ) → first_row es n ≡ 0 → 0 < n → 0 < length es
unfolding first_row
some_entry [] n e h = absurd (omega arith)
some_entry (a ∷ es) n e h = omega arith

first_new : (es : List Entry) (n m v : ℕ) → first_row es n ≡ 0 → first_row (es ++ (entry v n ∷ [])) m ≡ 0
unfolding first_row
first_new [] n m v e = e
first_new (a ∷ es) n m v e = e

first_same : (es : List Entry) (n m : ℕ) → 0 < length es → first_row es n ≡ 0 → first_row es m ≡ 0
unfolding first_row
first_same [] n m h e = absurd (omega arith)
first_same (a ∷ es) n m h e = e

last_some : (test : ℕ → Bool) (es : List Entry) → last_passes test es ≡ false → 0 < length es
unfolding last_passes
last_some test [] e = absurd (true≢false e)
last_some test (a ∷ es) e = omega arith

pub sound_some : (es : List Entry) (rows : ℕ) → entries_sound es rows ≡ true → 0 < rows → 0 < length es
sound_some es rows s h = some_entry es rows (sound_first es rows s) h

module _ (es : List Entry) (rows : ℕ) (s : entries_sound es rows ≡ true) where
  climb : Climb es rows
  climb = sound_climb es rows s

  first : first_row es rows ≡ 0
  first = sound_first es rows s

  -- the last entry's value is the last row's
  pub last_value_at : (test : ℕ → Bool) → 0 < rows → last_passes test es ≡ test (value_at (rows - 1) es)
  last_value_at test h = value_at_last test (rows - 1) rows es (some_entry es rows first h) climb.below (omega arith)

  pub admits_value_at : (v : ℕ) → 0 < rows → admits v es ≡ leb (value_at (rows - 1) es) v
  unfolding admits
  admits_value_at v h = last_value_at (λ w. leb w v) h

  -- without a row there is no entry
  no_entry : (l : List Entry) → Below l rows → rows ≡ 0 → l ≡ []
  no_entry [] q z = refl
  no_entry (a ∷ l) q z = let r = below_head a l rows q in absurd (omega arith)

  pub admits_none : (v : ℕ) → rows ≡ 0 → admits v es ≡ true
  unfolding admits last_passes
  admits_none v z = rw (no_entry es climb.below z)

  module _ (v : ℕ) where
    sound_new : last_passes (λ w. ltb w v) es ≡ true → entries_sound (es ++ (entry v rows ∷ [])) (rows + 1) ≡ true
    sound_new l =
        sound_join (es ++ (entry v rows ∷ [])) (rows + 1)
        (climb_more es v rows rows (rows + 1) climb l (omega arith) (omega arith))
        (first_new es rows (rows + 1) v first)

    sound_same : last_passes (λ w. ltb w v) es ≡ false → entries_sound es (rows + 1) ≡ true
    sound_same l =
        sound_join es (rows + 1) (climb_wider es rows (rows + 1) climb (omega arith))
        (first_same es rows (rows + 1) (last_some (λ w. ltb w v) es l) first)

    -- sound entries stay sound with one row more
    pub push_sound : entries_sound (push v rows es) (rows + 1) ≡ true
    push_sound =
        elim (split (last_passes (λ w. ltb w v) es)) [
          | inl l ↦ rw (push_new v rows es l) (sound_new l)
          | inr l ↦ rw (push_same v rows es l) (sound_same l)
        ]

    -- `push` does not change the values of earlier rows
    pub push_earlier : (i : ℕ) → i < rows → value_at i (push v rows es) ≡ value_at i es
    push_earlier i h =
        elim (split (last_passes (λ w. ltb w v) es)) [
          | inl l ↦ rw (push_new v rows es l) (value_at_before i es (entry v rows) (some_entry es rows first (omega arith)) h)
          | inr l ↦ rw (push_same v rows es l)
        ]

    -- the value of the new row is the pushed one, if it is admitted
    same_value : admits v es ≡ true → last_passes (λ w. ltb w v) es ≡ false → value_at rows es ≡ v
    unfolding admits
    same_value a l =
        let n = last_some (λ w. ltb w v) es l in
        let q : rows ≤ rows + 1 = omega arith in
        let p = leb-true (value_at rows es) v (sym (value_at_last (λ w. leb w v) rows rows es n climb.below q) ∙ a) in
        let r = ltb-false (value_at rows es) v (sym (value_at_last (λ w. ltb w v) rows rows es n climb.below q) ∙ l) in
        omega arith

    pub push_here : admits v es ≡ true → value_at rows (push v rows es) ≡ v
    push_here a =
        elim (split (last_passes (λ w. ltb w v) es)) [
          | inl l ↦ rw (push_new v rows es l) (value_at_new rows rows es (entry v rows) climb.below (omega arith) (omega arith))
          | inr l ↦ rw (push_same v rows es l) (same_value a l)
        ]

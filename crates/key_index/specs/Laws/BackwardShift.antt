-- Laws of backward-shift deletion: `backward_shift` preserves the soundness of a key store, once the removed row is dead. The proof unrolls
-- the ring at a free slot and rolls it up again. Assumes nothing.
use Prim.Native.Nat.{ℕ, zero, suc, ◌+◌, ◌-◌, ◌*◌, ◌%◌, ◌^◌, ◌≤◌, ◌<◌}
use Rattle.std.specs.Prelude.{◌≡◌, true, List, ltb, eqb, take, drop}
use Rattle.std.proofs.Math.Path.{sym, ap}
use Rattle.std.proofs.Common.{◌∙◌, length-set, get_or-set_same, drop-set-lt}
use Rattle.std.proofs.Math.Logic.{inl, inr}
use Rattle.std.proofs.Math.Bool.{false, not, false≢true}
use Rattle.std.proofs.Math.Nat.{add-zero}
use Rattle.std.proofs.Math.Decide.{dec_lt, ℕ_discrete}
use native.Mathlib.Omega.{arith}
use Rattle.std.proofs.Math.ListN.{length, get_or, set}
use borrow.Author.Tests.{lt-ltb, le-ltb, eq-eqb}
use Rattle.lists.specs.Lists.{row_at}
use Rattle.lists.specs.Laws.Filter.{split}
use Rattle.lists.specs.Laws.Rows.{row_in, get_d_row_at, row_at_set_other}
use Rattle.cells.specs.Cells.{is_dead}
use Rattle.constraints.specs.Constraints.{is_live}
use Rattle.key_index.specs.declared.IndexShape.{IndexShape}
use Rattle.key_index.specs.Slots.{LiveAt, key_at, slots, word, home, slot_from, KeysSound}
use Rattle.key_index.specs.inner.Ring.{row_named, names_row, away}
use Rattle.key_index.specs.Laws.Ring.{word_some, word_row, word_same, names_none, names_word, home_below, slot_below, slot_then, slot_zero, slot_round, away_below, away_slot, away_line}
use Rattle.key_index.specs.inner.Index.{Fits, home_of}
use Rattle.key_index.specs.inner.BackwardShift.{backward_shift}
use Rattle.key_index.specs.Laws.Index.{free_slot}
use Rattle.key_index.specs.Laws.Unrolled.{line, line_at, line_put, Line, LineWithHole, hole_open, hole_stay, hole_move, hole_close, line_homes}
use Rattle.key_index.specs.Laws.Lines.{Small, small, Stored, line_home, unroll, roll}

-- ---- the scan, one slot at a time

module _ (t : IndexShape) (rows : List ℕ) where
  -- the next slot, and the distance from its word's home to it
  abbrev pub after : ℕ → ℕ
  after at = slot_from (slots t) at 1

  abbrev pub moved : ℕ → List ℕ → ℕ
  moved at store = away (slots t) (home_of t rows (get_or store (after at) 0)) (after at)

  module _ (left hole gap at : ℕ) (store : List ℕ) where
    pub backward_shift_spent : left ≤ 0 → backward_shift t rows left hole gap at store ≡ set store hole 0
    unfolding backward_shift
    backward_shift_spent h = let e : left ≡ 0 = omega arith in rw e

    pub backward_shift_stop : 0 < left → names_row t (get_or store (after at) 0) ≡ false → backward_shift t rows left hole gap at store ≡ set store hole 0
    unfolding backward_shift
    backward_shift_stop h e = let f : left ≡ suc (left - 1) = omega arith in rw (f, e)

    pub backward_shift_stay : 0 < left → names_row t (get_or store (after at) 0) ≡ true → moved at store < gap + 1
        → backward_shift t rows left hole gap at store ≡ backward_shift t rows (left - 1) hole (gap + 1) (after at) store
    unfolding backward_shift
    backward_shift_stay h e i =
        let f : left ≡ suc (left - 1) = omega arith in
        ap (λ (k : ℕ). backward_shift t rows k hole gap at store) f ∙ rw (e, lt-ltb (moved at store) (gap + 1) i)

    pub backward_shift_move : 0 < left → names_row t (get_or store (after at) 0) ≡ true → gap + 1 ≤ moved at store
        → backward_shift t rows left hole gap at store ≡ backward_shift t rows (left - 1) (after at) 0 (after at) (set store hole (get_or store (after at) 0))
    unfolding backward_shift
    backward_shift_move h e i =
        let f : left ≡ suc (left - 1) = omega arith in
        ap (λ (k : ℕ). backward_shift t rows k hole gap at store) f ∙ rw (e, le-ltb (moved at store) (gap + 1) i)

  -- the scan preserves what each of its writes preserves; it writes only to the hole and to slots that it visits
  module _ {A : Type 0} (f : List ℕ → A) (In : ℕ → Type 0) (met : (at : ℕ) → In (after at))
      (keeps : (store : List ℕ) (slot w : ℕ) → In slot → f (set store slot w) ≡ f store) where
    backward_shift_keeps : (left hole gap at : ℕ) (store : List ℕ) → In hole → f (backward_shift t rows left hole gap at store) ≡ f store
    unfolding backward_shift
    backward_shift_keeps zero hole gap at store h = keeps store hole 0 h
    backward_shift_keeps (suc left) hole gap at store h =
        let w = get_or store (after at) 0 in
        elim (split (names_row t w)) [
          | inl e ↦ elim (split (ltb (moved at store) (gap + 1))) [
            | inl g ↦ rw (e, g) (backward_shift_keeps left hole (gap + 1) (after at) store h)
            | inr g ↦ rw (e, g) (backward_shift_keeps left (after at) 0 (after at) (set store hole w) (met at) ∙ keeps store hole w h)
          ]
          | inr e ↦ rw e (keeps store hole 0 h)
        ]

  -- so it preserves the length, and the words past the slots
  pub backward_shift_length : (left hole gap at : ℕ) (store : List ℕ) → length (backward_shift t rows left hole gap at store) ≡ length store
  backward_shift_length left hole gap at store = backward_shift_keeps length (λ _. Unit) (λ _. tt) (λ s i w _. length-set s i w) left hole gap at store tt

  pub backward_shift_rest : (left hole gap at : ℕ) (store : List ℕ) → hole < slots t → drop (slots t) (backward_shift t rows left hole gap at store) ≡ drop (slots t) store
  backward_shift_rest left hole gap at store h =
      backward_shift_keeps (drop (slots t)) (λ i. i < slots t) (λ i. slot_below (slots t) i 1 (omega arith)) (λ s i w k. drop-set-lt (slots t) s i w k) left hole gap at store h

  module _ (Held : ℕ → Type 0) (names : (w : ℕ) → Held w → names_row t w ≡ true) (z : ℕ) (b : z < slots t) (m : Small t) where
    -- the distance from a word's home to a position of the line
    word_far : (w a : ℕ) → line_home t rows z w ≤ a → a < slots t → away (slots t) (home_of t rows w) (slot_from (slots t) z a) ≡ a - line_home t rows z w
    unfolding line_home home_of
    word_far w a i h =
        let key = key_at t rows (row_named w) in
        let e = away_slot (slots t) z (home (slots t) key) b (home_below (slots t) key (omega arith)) in
        ap (λ (k : ℕ). away (slots t) k (slot_from (slots t) z a)) (sym e) ∙ away_line (slots t) z (away (slots t) z (home (slots t) key)) a b i h

    -- after a scan up to position a of a line with a hole at position g, the rest of the scan leaves a line without a hole
    ShiftCloses : ℕ → Type 0
    ShiftCloses left =
        (g a hole gap at : ℕ) (store : List ℕ) → slots t ≤ length store → hole ≡ slot_from (slots t) z g → gap + g ≡ a → at ≡ slot_from (slots t) z a
        → slots t ≤ left + a → LineWithHole (slots t) (line_home t rows z) Held (line (slots t) z store) g a
        → Line (slots t) (line_home t rows z) Held (line (slots t) z (backward_shift t rows left hole gap at store))

    shift_closes_on : (left : ℕ) → ShiftCloses left → ShiftCloses (suc left)
    unfolding ShiftCloses
    shift_closes_on left more g a hole gap at store long x y u enough s = go (dec_lt (a + 1) (slots t)) (ℕ_discrete (get_or store (after at) 0) 0)
      where
        next : after at ≡ slot_from (slots t) z (a + 1)
        next = ap (λ (k : ℕ). slot_from (slots t) k 1) u ∙ slot_then (slots t) z a 1

        there : get_or store (after at) 0 ≡ line (slots t) z store (a + 1)
        there = unfold line in ap (λ (k : ℕ). get_or store k 0) next

        less : suc left - 1 ≡ left
        less = omega arith

        -- the next slot is free
        stop : get_or store (after at) 0 ≡ 0 → Line (slots t) (line_home t rows z) Held (line (slots t) z (backward_shift t rows (suc left) hole gap at store))
        stop e =
            rw (backward_shift_stop (suc left) hole gap at store (omega arith) (names_none t _ (ap (λ (w : ℕ). w % 2 ^ 17) e)), x)
            (hole_close (slots t) (line_home t rows z) Held (line (slots t) z store) g a s _ (λ k. sym there ∙ e) (line_put (slots t) z store g 0 b (omega (arith, s.order, s.end)) long))

        -- the next slot has a word
        step : a + 1 < slots t → (get_or store (after at) 0 ≡ 0 → ⊥) → Line (slots t) (line_home t rows z) Held (line (slots t) z (backward_shift t rows (suc left) hole gap at store))
        step h e =
            let w = get_or store (after at) 0 in
            let k = line_home t rows z w in
            let d = moved at store in
            let c : 0 < line (slots t) z store (a + 1) = rw (← there) (omega arith) in
            let ne : a + 1 ≡ g → ⊥ = omega (arith, s.order) in
            let n = names w (rw (← there) at (s.only (a + 1) h ne c)) in
            let i : k ≤ a + 1 = rw (← there) at (s.after (a + 1) h ne c) in
            let q : d ≡ a + 1 - k = ap (away (slots t) (home_of t rows w)) next ∙ word_far w (a + 1) i h in
            elim (dec_lt d (gap + 1)) [
              | yes v ↦
                  let j : g < line_home t rows z (line (slots t) z store (a + 1)) = rw (← there) (omega arith) in
                  rw (backward_shift_stay (suc left) hole gap at store (omega arith) n v, less)
                  (more g (a + 1) hole (gap + 1) (after at) store long x (omega arith) next (omega arith) (hole_stay (slots t) (line_home t rows z) Held (line (slots t) z store) g a s h j))
              | no v ↦
                  let j : line_home t rows z (line (slots t) z store (a + 1)) ≤ g = rw (← there) (omega arith) in
                  let p = line_put (slots t) z store g w b (omega (arith, s.order, s.end)) long in
                  rw (backward_shift_move (suc left) hole gap at store (omega arith) n (omega arith), less)
                  (more (a + 1) (a + 1) (after at) 0 (after at) (set store hole w) (simp length-set long) next (omega arith) next (omega arith)
                  (rw x (hole_move (slots t) (line_home t rows z) Held (line (slots t) z store) g a s _ h c j (rw (← there) p))))
            ]

        go : Dec (a + 1 < slots t) → Dec (get_or store (after at) 0 ≡ 0) → Line (slots t) (line_home t rows z) Held (line (slots t) z (backward_shift t rows (suc left) hole gap at store))
        go h (yes e) = stop e
        go (yes h) (no e) = step h e
        go (no h) (no e) =
            let k : a + 1 ≡ slots t = omega (arith, s.end) in
            absurd (e (ap (λ (i : ℕ). get_or store i 0) (next ∙ ap (slot_from (slots t) z) k ∙ slot_round (slots t) z b ∙ sym (slot_zero (slots t) z b)) ∙ (unfold line in s.free)))

    shift_closes : (left : ℕ) → ShiftCloses left
    shift_closes zero = unfold ShiftCloses in λ g a hole gap at store long x y u enough s. absurd (omega (arith, s.end))
    shift_closes (suc left) = shift_closes_on left (shift_closes left)

-- ---- a row is marked dead

module _ (t : IndexShape) (rows store : List ℕ) (f : Fits t rows store) (r : ℕ) (live : LiveAt t rows r) where
  -- the other rows are unchanged
  other_row : (row : ℕ) → (row ≡ r → ⊥) → row_at t.columns row (set rows (r * t.columns) 4294967295) ≡ row_at t.columns row rows
  other_row row ne =
      rw add-zero at (row_at_set_other t.columns r row 0 rows 4294967295 (λ e. ne (sym e)) (omega (arith, f.some_columns)))

  dead_row_lem : LiveAt t (set rows (r * t.columns) 4294967295) r → ⊥
  unfolding is_live is_dead
  dead_row_lem q =
      let i : r * t.columns < length rows = omega (arith, row_in r t.room t.columns (omega (arith, live.0, f.count)), f.cells, f.some_columns) in
      let first : get_or (set rows (r * t.columns) 4294967295) (r * t.columns + 0) 0 ≡ 4294967295 = rw add-zero (get_or-set_same rows (r * t.columns) 4294967295 0 i) in
      let e = get_d_row_at t.columns r (set rows (r * t.columns) 4294967295) 0 0 (omega (arith, f.some_columns)) ∙ first in
      let no : not (eqb (get_or (row_at t.columns r (set rows (r * t.columns) 4294967295)) 0 0) 4294967295) ≡ false = rw (eq-eqb _ _ e) in
      false≢true (sym no ∙ q.1)

  other_live : (row : ℕ) → LiveAt t (set rows (r * t.columns) 4294967295) row → row ≡ r → ⊥
  other_live row q e = dead_row_lem (rw e at q)

  live_on : (row : ℕ) → (row ≡ r → ⊥) → LiveAt t rows row → LiveAt t (set rows (r * t.columns) 4294967295) row
  live_on row ne q = (q.0, rw (other_row row ne) q.1)

  live_back : (row : ℕ) → LiveAt t (set rows (r * t.columns) 4294967295) row → LiveAt t rows row
  live_back row q = (q.0, rw (other_row row (other_live row q)) at q.1)

  same_key : (row : ℕ) → (row ≡ r → ⊥) → key_at t (set rows (r * t.columns) 4294967295) row ≡ key_at t rows row
  same_key row ne = ap (take t.keys) (other_row row ne)

  -- the words that must be held are the previous ones, without the row's
  stored_on : (w : ℕ) → Stored t rows w → (w ≡ word (key_at t rows r) r → ⊥) → Stored t (set rows (r * t.columns) 4294967295) w
  stored_on w s ne =
      let k : s.0 ≡ r → ⊥ = λ e. ne (s.2 ∙ ap (λ (i : ℕ). word (key_at t rows i) i) e) in
      (s.0, live_on s.0 k s.1, rw (same_key s.0 k) s.2)

  stored_back : (w : ℕ) → Stored t (set rows (r * t.columns) 4294967295) w → Stored t rows w
  stored_back w s = let k = other_live s.0 s.1 in (s.0, live_back s.0 s.1, rw (same_key s.0 k) at s.2)

  row_small : (row : ℕ) → row < t.rows → row < 2 ^ 17 - 1
  row_small row h = omega (arith, f.count, f.most)

  stored_out : Stored t (set rows (r * t.columns) 4294967295) (word (key_at t rows r) r) → ⊥
  stored_out s =
      let k = other_live s.0 s.1 in
      k (word_same _ (key_at t rows r) s.0 r (row_small s.0 s.1.0) (row_small r live.0) (sym s.2))

  stored_names : (w : ℕ) → Stored t (set rows (r * t.columns) 4294967295) w → names_row t w ≡ true
  stored_names w s = rw s.2 (names_word t _ s.0 s.1.0 (row_small s.0 s.1.0))

  same_home : (z w : ℕ) → Stored t (set rows (r * t.columns) 4294967295) w → line_home t rows z w ≡ line_home t (set rows (r * t.columns) 4294967295) z w
  unfolding line_home home_of
  same_home z w s =
      let k = other_live s.0 s.1 in
      let e : row_named w ≡ s.0 = ap row_named s.2 ∙ word_row _ s.0 (row_small s.0 s.1.0) in
      rw (e, same_key s.0 k)

  -- "Freed slots are used again": once the hole is closed the store leads to exactly the other live rows
  pub remove_row_sound : KeysSound t rows store → (slot : ℕ) → slot < slots t → get_or store slot 0 ≡ word (key_at t rows r) r
      → KeysSound t (set rows (r * t.columns) 4294967295) (backward_shift t rows (slots t) slot 0 slot store)
  unfolding ShiftCloses
  remove_row_sound s slot h e =
      let free = free_slot t rows store f s in
      let z = free.0 in
      let b = free.1 in
      let m = small t rows store f in
      let rows' = set rows (r * t.columns) 4294967295 in
      let g = away (slots t) z slot in
      let at : slot_from (slots t) z g ≡ slot = away_slot (slots t) z slot b h in
      let there : line (slots t) z store g ≡ word (key_at t rows r) r = line_at (slots t) z store g slot at ∙ e in
      let gap = hole_open (slots t) (line_home t rows z) (Stored t rows) (Stored t rows') (line (slots t) z store) g (away_below (slots t) z slot (omega arith)) (rw there (word_some (key_at t rows r) r))
      (λ w q ne. stored_on w q (λ v. ne (v ∙ sym there))) (λ w q. stored_back w q) (λ q. stored_out (rw there at q)) (unroll t m rows z b store s free.2) in
      let done = shift_closes t rows (Stored t rows') (λ w q. stored_names w q) z b m (slots t) g g slot 0 slot store f.long (sym at) (omega arith) (sym at) (omega arith) gap in
      roll t m rows' z b (backward_shift t rows (slots t) slot 0 slot store) (line_homes (slots t) (line_home t rows z) (Stored t rows') (line_home t rows' z) _ (λ w q. same_home z w q) done)

-- The steps of `remove_row`: distances on the ring, the home of a word's row, and the scan that closes the hole. Assumes nothing.
use Rattle.key_index.proofs.Prelude.{ℕ, ◌+◌, ◌-◌, ◌%◌, ◌^◌, ◌≤◌, ◌<◌, ◌≡◌, refl, sym, ap, ◌∙◌, true, false, cond, inl, inr, List, mod-eq_of_lt, add-mod_right, ℕ_discrete, arith, length, get_or, set, length-set, leb, set-get_or, get_or-set_same, get_or-set_other, leb-true, leb-false, split, IndexShape, key_at, slots, slot_from, home_spread, backward_shift, Shifted, RowRemoved, backward_shift_spent, backward_shift_stop, backward_shift_stay, backward_shift_move, backward_shift_length, backward_shift_rest, remove_row_sound}
use Rattle.cells.specs.Cells.{compact_hash, key_hash}
use Rattle.key_index.specs.inner.Ring.{spread, row_named, names_row, away}
use Rattle.key_index.specs.inner.Index.{Fits, home_of}

-- ---- distances

pub distance_ahead : (n a b : ℕ) → b < n → a ≤ b → b - a ≡ away n a b
unfolding away
distance_ahead n a b h k =
    let e : b + (n - a) ≡ b - a + n = omega arith in
    let i : b - a < n = omega arith in
    sym (rw e (add-mod_right (b - a) n ∙ mod-eq_of_lt i))

pub distance_behind : (n a b : ℕ) → a < n → b < a → b + n - a ≡ away n a b
unfolding away
distance_behind n a b h k =
    let e : b + (n - a) ≡ b + n - a = omega arith in
    let i : b + n - a < n = omega arith in
    sym (rw e (mod-eq_of_lt i))

-- ---- homes

-- the home slot of the hash of its row's key
pub home_hash : (t : IndexShape) (rows : List ℕ) (w hash : ℕ) → hash ≡ compact_hash (key_hash (key_at t rows (w % 2 ^ 17 - 1))) → spread (slots t) hash ≡ home_of t rows w
unfolding home_of row_named
home_hash t rows w hash e = home_spread (slots t) hash (key_at t rows (w % 2 ^ 17 - 1)) e

-- ---- the scan that closes a hole

-- what holds at the loop's head: what is to come from here is what was to come from the start
pub record ShiftInvariant (t : IndexShape) (rows store₀ : List ℕ) (slot : ℕ) (store : List ℕ) (hole held gap at left : ℕ) : Type 0 where
  pub hole_in : hole < slots t
  pub at_in : at < slots t
  pub count : gap + left ≤ slots t
  pub same : length store ≡ length store₀
  pub holds : held ≡ get_or store hole 0
  pub shifts : backward_shift t rows left hole gap at store ≡ backward_shift t rows (slots t) slot 0 slot store₀

pub begin : (t : IndexShape) (rows store : List ℕ) (slot : ℕ) → slot < slots t → ShiftInvariant t rows store slot store slot (get_or store slot 0) 0 slot (slots t)
begin t rows store slot h = record { hole_in = h; at_in = h; count = omega arith; same = refl; holds = refl; shifts = refl }

module _ (t : IndexShape) (rows store₀ : List ℕ) (slot : ℕ) (store : List ℕ) (hole held gap at left : ℕ) (s : ShiftInvariant t rows store₀ slot store hole held gap at left) where
  pub finish : left ≤ 0 → Shifted t rows store₀ slot hole store
  finish h = record { shifts = sym (backward_shift_spent t rows left hole gap at store h) ∙ s.shifts; below = s.hole_in; same = s.same }

  module _ (next : ℕ) (n : (next ≡ slot_from (slots t) at 1) × (next < slots t)) (more : 0 < left) where
    pub stop : names_row t (get_or store next 0) ≡ false → Shifted t rows store₀ slot hole store
    stop e = record { shifts = sym (backward_shift_stop t rows left hole gap at store more (rw n.0 at e)) ∙ s.shifts; below = s.hole_in; same = s.same }

    module _ (long : slots t ≤ length store₀) (e : names_row t (get_or store next 0) ≡ true) where
      -- the word next stays, and the hole's own is written again
      stay : away (slots t) (home_of t rows (get_or store next 0)) next < gap + 1
          → ShiftInvariant t rows store₀ slot (set store hole held) hole held (gap + 1) next (left - 1)
      stay h =
          let kept : set store hole held ≡ store = ap (set store hole) s.holds ∙ set-get_or store hole 0 in
          rw kept
          (record {
            hole_in = s.hole_in;
            at_in = n.1;
            count = omega (arith, s.count);
            same = s.same;
            holds = s.holds;
            shifts = rw n.0 (sym (backward_shift_stay t rows left hole gap at store more (rw n.0 at e) (rw n.0 at h)) ∙ s.shifts);
          })

      -- it moves into the hole; what it leaves is the hole, and still has it
      move : gap + 1 ≤ away (slots t) (home_of t rows (get_or store next 0)) next
          → ShiftInvariant t rows store₀ slot (set store hole (get_or store next 0)) next (get_or store next 0) 0 next (left - 1)
      move h =
          record {
            hole_in = n.1;
            at_in = n.1;
            count = omega (arith, s.count);
            same = length-set store hole (get_or store next 0) ∙ s.same;
            holds = sym (moved_holds (ℕ_discrete next hole));
            shifts = rw n.0 (sym (backward_shift_move t rows left hole gap at store more (rw n.0 at e) (rw n.0 at h)) ∙ s.shifts);
          }
        where
          moved_holds : Dec (next ≡ hole) → get_or (set store hole (get_or store next 0)) next 0 ≡ get_or store next 0
          moved_holds (yes q) = ap (λ (i : ℕ). get_or (set store hole (get_or store next 0)) i 0) q ∙ get_or-set_same store hole (get_or store next 0) 0 (omega (arith, s.hole_in, s.same))
          moved_holds (no q) = get_or-set_other store hole next (get_or store next 0) 0 q

      -- in both cases; `far` is the distance from its home to it
      pub turn : (far held' hole' gap' : ℕ) → far ≡ away (slots t) (home_of t rows (get_or store next 0)) next
          → held' ≡ cond (leb (gap + 1) far) (get_or store next 0) held → hole' ≡ cond (leb (gap + 1) far) next hole → gap' ≡ cond (leb (gap + 1) far) 0 (gap + 1)
          → ShiftInvariant t rows store₀ slot (set store hole held') hole' held' gap' next (left - 1)
      turn far held' hole' gap' d a b c =
          rw (a, b, c)
          (elim (split (leb (gap + 1) far)) [
            | inl q ↦ rw q (move (omega (arith, leb-true (gap + 1) far q)))
            | inr q ↦ rw q (stay (omega (arith, leb-false (gap + 1) far q)))
          ])

-- once the last hole is freed the row is taken out
pub taken : (t : IndexShape) (rows store : List ℕ) (slot r : ℕ) (store' : List ℕ) → Fits t rows store → slot < slots t → Shifted t rows store slot r store'
    → RowRemoved t rows store slot (set store' r 0)
taken t rows store slot r store' f h s =
    record {
      sound = λ k row live e. rw s.shifts (remove_row_sound t rows store f row live k slot h e);
      rest = rw s.shifts (backward_shift_rest t rows (slots t) slot 0 slot store h);
      same = rw s.shifts (backward_shift_length t rows (slots t) slot 0 slot store);
    }

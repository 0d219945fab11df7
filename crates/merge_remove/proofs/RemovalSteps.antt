-- The result of a removal, from the contracts of its calls: a row that is marked dead, a key that no live row has, and the live row
-- of a key. Assumes nothing.
use Rattle.merge_remove.proofs.Prelude.{ℕ, ◌+◌, ◌*◌, ◌≤◌, ◌<◌, ◌≡◌, refl, sym, ap, ◌∙◌, Bool, true, false, not, false≢true, inl, inr, List, add-zero, arith, eqb, length, eqb-true, eqb-false, ne_eqb, not-true, not-false, split, live_first, Staled, IndexShape, Option, None, Some, Hit, LiveAt, key_at, slots, KeysSound, Fits, FoundAt, FoundIs, rows_in_lem, row_inside, past_size_class, RowRemoved, remove_key, remove_row, Plain, Header, index_shape_of, full_index_shape_of, stores, Represents, SamePast, full_shape_fits, in_live, steps_refl, dying, dying_steps, without_key_none, without_key_one, without_row_none, without_row_one, without_row_other}
use Rattle.cells.specs.Cells.{compact_hash, key_hash}
use Rattle.merge_pending.specs.inner.Becoming.{Becomes, with_dead, hash_of}
use Rattle.merge_remove.specs.inner.Removals.{Kills, removal_of, spared, Removal, died, removed}

-- ---- a row is taken out and marked

-- its first cell is within the store
pub first_cell : (t : IndexShape) (rows keys : List ℕ) (row : ℕ) → Fits t rows keys → row < t.rows → row * t.columns < length rows
first_cell t rows keys row f h = omega (arith, row_inside t rows row (rows_in_lem t rows keys f) h, f.some_columns)

pub killed : (t : IndexShape) (rows keys : List ℕ) (row slot : ℕ) (was : Bool) (rows' keys' : List ℕ) → Fits t rows keys
    → RowRemoved t rows keys slot keys' → Staled rows (row * t.columns) was rows' → Kills t rows keys row slot (not was) rows' keys'
killed t rows keys row slot was rows' keys' f taken staled =
    record {
      marks = staled.cells;
      was_live = ap not staled.before ∙ sym (live_first t.columns row rows f.some_columns);
      past = taken.rest;
      keys_sound = λ sound live word. rw staled.cells (taken.sound sound row live word);
    }

-- ---- a removal

-- one by key takes any row, one by row only the one that it names
pub spared_row : (kind row found : ℕ) → (kind ≡ 1 → ⊥) → not (eqb found row) ≡ spared kind row found
unfolding spared
spared_row kind row found e = rw (ne_eqb kind 1 e)

-- what a lookup requires, and a kill of the row that it finds
pub find_fits : {t : IndexShape} (h : Header) {rows keys : List ℕ} {n : ℕ} → t ≡ index_shape_of h → (Fits (full_index_shape_of h) rows keys) × (n ≡ h.keys) → (Fits t rows keys) × (n ≡ t.keys)
find_fits h {rows = rows} {keys = keys} e f = rw e (full_shape_fits h rows keys f.0, f.1)

pub kill_fits : {t : IndexShape} (h : Header) {rows keys key : List ℕ} {hash : ℕ} {found : Option Hit} (hit : Hit) → t ≡ index_shape_of h → Fits (full_index_shape_of h) rows keys
    → FoundIs t rows keys key hash found → found ≡ Some hit → (Fits t rows keys) × (hit.row < t.rows) × (hit.slot < slots t)
kill_fits h {rows = rows} {keys = keys} hit e f finds q = (rw e (full_shape_fits h rows keys f), finds.row_in hit q, finds.slot_in hit q)

-- nothing changes
unchanged : {p p' : Plain} (h : Header) {rows keys sorts pending : List ℕ} (dead : ℕ) → p' ≡ p → Represents p (stores (with_dead h dead) rows keys sorts pending)
    → Becomes p p' (stores (with_dead h dead) rows keys sorts pending) (stores (with_dead h (dead + died false)) rows keys sorts pending)
unfolding died
unchanged h dead e r = rw (e, add-zero dead) (steps_refl r)

module _ (h : Header) (rows keys key : List ℕ) (hash : ℕ) (t : IndexShape) (numbers : t ≡ index_shape_of h) (found : Option Hit) (finds : FoundIs t rows keys key hash found) where
  -- the key has no live row
  nowhere : found ≡ None → hash ≡ compact_hash (key_hash key) → KeysSound (index_shape_of h) rows keys → (i : ℕ) → LiveAt (index_shape_of h) rows i → key_at (index_shape_of h) rows i ≡ key → ⊥
  nowhere q e sound = (rw numbers at finds).none e sound q

  key_absent : found ≡ None → Removal h rows keys (remove_key key) hash false rows keys
  unfolding removed hash_of
  key_absent q =
      record {
        past = refl;
        table = λ e dead sorts pending p r. unchanged h dead (without_key_none r key (nowhere q e r.keys_sound)) r;
      }

  row_absent : (row : ℕ) → found ≡ None → Removal h rows keys (remove_row row key) hash false rows keys
  unfolding removed hash_of
  row_absent row q =
      record {
        past = refl;
        table = λ e dead sorts pending p r. unchanged h dead (without_row_none r key (nowhere q e r.keys_sound) row) r;
      }

  -- whichever kind it is
  pub absent : (kind row : ℕ) → found ≡ None → Removal h rows keys (removal_of kind row key) hash false rows keys
  unfolding removal_of
  absent kind row q = elim (split (eqb kind 1)) [ inl e ↦ rw e (key_absent q) | inr e ↦ rw e (row_absent row q) ]

  module _ (hit : Hit) (is : found ≡ Some hit) where
    somewhere : hash ≡ compact_hash (key_hash key) → KeysSound (index_shape_of h) rows keys → FoundAt (index_shape_of h) rows keys key hit.row hit.slot
    somewhere e sound = (rw numbers at finds).at e sound hit is

    -- it is another row
    row_other : (row : ℕ) → (hit.row ≡ row → ⊥) → Removal h rows keys (remove_row row key) hash false rows keys
    unfolding removed hash_of
    row_other row ne =
        record {
          past = refl;
          table = λ e dead sorts pending p r.
              let f = somewhere e r.keys_sound in
              unchanged h dead (without_row_other r key hit.row row f.live f.key_is ne) r;
        }

    pub left_alone : (kind row : ℕ) → spared kind row hit.row ≡ true → Removal h rows keys (removal_of kind row key) hash false rows keys
    unfolding removal_of spared
    left_alone kind row s =
        elim (split (eqb kind 1)) [
          | inl e ↦ absurd (false≢true (rw e at s))
          | inr e ↦ rw e (row_other row (eqb-false hit.row row (not-true _ (rw e at s))))
        ]

    module _ (r : Bool) (rows' keys' : List ℕ) (long : 2 * h.capacity ≤ length keys') (kills : Kills t rows keys hit.row hit.slot r rows' keys') where
      -- the live row of the key dies
      dead_now : {p : Plain} (dead : ℕ) (sorts pending : List ℕ) → hash ≡ compact_hash (key_hash key) → Represents p (stores (with_dead h dead) rows keys sorts pending)
          → Becomes p (dying p hit.row) (stores (with_dead h dead) rows keys sorts pending) (stores (with_dead h (dead + died r)) rows' keys' sorts pending)
      unfolding died
      dead_now dead sorts pending e s =
          let k : Kills (index_shape_of h) rows keys hit.row hit.slot r rows' keys' = rw numbers at kills in
          let f = somewhere e s.keys_sound in
          let lives : r ≡ true = k.was_live ∙ f.live.1 in
          let sound : KeysSound (index_shape_of h) rows' keys' = k.keys_sound s.keys_sound f.live (rw f.key_is f.word_is) in
          rw (lives, k.marks) (dying_steps s hit.row (in_live s hit.row f.live) keys' long (rw k.marks at sound))

      past_all : SamePast (2 * h.capacity) keys keys'
      past_all = past_size_class h.capacity h.rows keys keys' (rw numbers at kills.past)

      key_dead : Removal h rows keys (remove_key key) hash r rows' keys'
      unfolding removed hash_of
      key_dead =
          record {
            past = past_all;
            table = λ e dead sorts pending p s.
                let f = somewhere e s.keys_sound in
                rw (without_key_one s key hit.row f.live f.key_is) (dead_now dead sorts pending e s);
          }

      row_dead : Removal h rows keys (remove_row hit.row key) hash r rows' keys'
      unfolding removed hash_of
      row_dead =
          record {
            past = past_all;
            table = λ e dead sorts pending p s.
                let f = somewhere e s.keys_sound in
                rw (without_row_one s key hit.row f.live f.key_is) (dead_now dead sorts pending e s);
          }

      pub dead_one : (kind row : ℕ) → spared kind row hit.row ≡ false → Removal h rows keys (removal_of kind row key) hash r rows' keys'
      unfolding removal_of spared
      dead_one kind row s =
          elim (split (eqb kind 1)) [
            | inl e ↦ rw e key_dead
            | inr e ↦ rw (e, ← (eqb-true hit.row row (not-false _ (rw e at s)))) row_dead
          ]

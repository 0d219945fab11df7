-- Contracts of removing a row by backward-shift deletion (document 01, "Key index"). Assumes nothing.
use Rattle.std.specs.Prelude.{ℕ, zero, suc, ◌+◌, ◌*◌, ◌<◌, ◌≡◌, cond, List, ltb, length, get_or, set, drop}
use Rattle.key_index.specs.declared.IndexShape.{IndexShape}
use Rattle.key_index.specs.inner.Index.{home_of}
use Rattle.key_index.specs.Slots.{LiveAt, key_at, slots, word, slot_from, KeysSound}
use Rattle.key_index.specs.inner.Ring.{names_row, away}

-- Backward-shift deletion from a hole on; `at` is `gap` slots after the hole. If the home of the next slot's word is not after the
-- hole, the word moves into the hole, and its slot is the new hole. The scan ends at the first slot whose word is not that of a
-- row.
unfoldable pub backward_shift : IndexShape → List ℕ → ℕ → ℕ → ℕ → ℕ → List ℕ → List ℕ
backward_shift t rows zero hole gap at store = set store hole 0
backward_shift t rows (suc left) hole gap at store =
    let next = slot_from (slots t) at 1 in
    let w = get_or store next 0 in
    cond (names_row t w)
    (cond (ltb (away (slots t) (home_of t rows w) next) (gap + 1)) (backward_shift t rows left hole (gap + 1) next store)
    (backward_shift t rows left next 0 next (set store hole w)))
    (set store hole 0)

-- the words are moved; the last hole is still to be freed
pub record Shifted (t : IndexShape) (rows store : List ℕ) (slot r : ℕ) (store' : List ℕ) : Type 0 where
  pub shifts : set store' r 0 ≡ backward_shift t rows (slots t) slot 0 slot store
  pub below : r < slots t
  pub same : length store' ≡ length store

-- the store after the live row in a slot is removed; the caller marks the row dead afterwards
pub record RowRemoved (t : IndexShape) (rows store : List ℕ) (slot : ℕ) (store' : List ℕ) : Type 0 where
  pub sound : KeysSound t rows store → (row : ℕ) → LiveAt t rows row → get_or store slot 0 ≡ word (key_at t rows row) row
      → KeysSound t (set rows (row * t.columns) 4294967295) store'
  pub rest : drop (slots t) store' ≡ drop (slots t) store
  pub same : length store' ≡ length store

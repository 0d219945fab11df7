-- Contracts of renumbering (document 01, "Compaction"): slot by slot, from the compaction bitmap. Assumes nothing.
use Rattle.std.specs.Prelude.{ℕ, ◌+◌, ◌*◌, ◌/◌, ◌%◌, ◌^◌, ◌≤◌, ◌<◌, ◌≡◌, cond, List, leb, length, get_or, drop}
use Rattle.lists.specs.Lists.{count, rows_of}
use Rattle.lists.specs.inner.Searching.{map_front}
use Rattle.constraints.specs.Constraints.{is_live}
use Rattle.row_buffer.specs.Ranks.{set_below}
use Rattle.key_index.specs.declared.IndexShape.{IndexShape}
use Rattle.key_index.specs.Slots.{LiveAt, key_at, slots, word, KeysSound}
use Rattle.key_index.specs.inner.Ring.{row_named, names_row}

-- the number of live rows below row i: "the others close up in order"
abbrev pub live_below : IndexShape → List ℕ → ℕ → ℕ
live_below t rows i = count is_live (rows_of t.columns i rows)

-- each live row's word has a new number, and free slots remain free
pub record RenumberedBy (t : IndexShape) (rows store : List ℕ) (new : ℕ → ℕ) (store' : List ℕ) : Type 0 where
  pub free : (slot : ℕ) → slot < slots t → get_or store slot 0 ≡ 0 → get_or store' slot 0 ≡ 0
  pub taken : (slot i : ℕ) → slot < slots t → LiveAt t rows i → get_or store slot 0 ≡ word (key_at t rows i) i
      → get_or store' slot 0 ≡ word (key_at t rows i) (new i)

-- a sound store gets the numbers that a compaction assigns
pub record Renumbered (t : IndexShape) (rows store store' : List ℕ) : Type 0 where
  pub numbers : KeysSound t rows store → RenumberedBy t rows store (live_below t rows) store'
  pub rest : drop (slots t) store' ≡ drop (slots t) store

-- "a row's new number is that plus the count of ones below its bit"
unfoldable pub new_row : List ℕ → List ℕ → ℕ → ℕ
new_row live base row = get_or base (row / 64) 0 + set_below (get_or live (row / 64) 0) (row % 64)

-- A slot's word with its row's new number. A word that is not that of a row is unchanged. So is one whose base is above 65536,
-- which no compaction writes: so a new number never overflows into the hash bits.
unfoldable pub renumbered : IndexShape → List ℕ → List ℕ → ℕ → ℕ
renumbered t live base w =
    cond (names_row t w) (cond (leb (get_or base (row_named w / 64) 0) 65536) (w / 2 ^ 17 * 2 ^ 17 + (new_row live base (row_named w) + 1)) w) w

-- "capacity over 64 rounded up of u64 and of u32"; `room` is at most the capacity
pub record Ranked (t : IndexShape) (live base : List ℕ) : Type 0 where
  pub room : t.room ≤ 65536
  pub count : t.rows ≤ t.room
  pub bitmap_word : (t.room + 63) / 64 ≤ length live
  pub firsts : (t.room + 63) / 64 ≤ length base

-- up to 64 slots of a store
pub record Block (store : List ℕ) (from count : ℕ) : Type 0 where
  pub few : count ≤ 64
  pub inside : from + count ≤ length store
  pub most : from + count ≤ 131072

-- if the slots before the block are renumbered, those of the block are renumbered too
pub record BlockRenumbered (t : IndexShape) (live base store : List ℕ) (from count : ℕ) (store' : List ℕ) : Type 0 where
  pub on : (l : List ℕ) → store ≡ map_front (renumbered t live base) from l → store' ≡ map_front (renumbered t live base) (from + count) l

-- Contracts of the key index: lookup, insertion of a row, clearing all slots (document 01, "Key index"). Assumes nothing.
use Rattle.std.specs.Prelude.{ℕ, ◌*◌, ◌≤◌, ◌<◌, ◌≡◌, Bool, true, false, Option, Some, None, List, length, get_or, set, drop, replicate}
use Rattle.lists.specs.Lists.{splice}
use Rattle.cells.specs.Cells.{compact_hash, key_hash}
use Rattle.key_index.specs.declared.IndexShape.{IndexShape}
use Rattle.key_index.specs.declared.Hit.{Hit}
use Rattle.key_index.specs.Slots.{LiveAt, key_at, slots, word, home, slot_from, KeysSound}
use Rattle.key_index.specs.inner.Ring.{spread, tagged, row_named}

-- a key store is long enough for slots for that many rows
pub record SlotsFit (room : ℕ) (store : List ℕ) : Type 0 where
  pub some : 1 ≤ room
  pub most : room ≤ 65536
  pub long : 2 * room ≤ length store

-- a table's rows are inside their store
pub record RowsIn (t : IndexShape) (rows : List ℕ) : Type 0 where
  pub most_columns : t.columns ≤ 8
  pub most_keys : t.keys ≤ t.columns
  pub most : t.room ≤ 65536
  pub count : t.rows ≤ t.room
  pub cells : t.rows * t.columns ≤ length rows

-- a table's numbers are within their bounds, and its stores are long enough
pub record Fits (t : IndexShape) (rows store : List ℕ) : Type 0 where
  pub some_columns : 1 ≤ t.columns
  pub most_columns : t.columns ≤ 8
  pub some_keys : 1 ≤ t.keys
  pub most_keys : t.keys ≤ t.columns
  pub some : 1 ≤ t.room
  pub most : t.room ≤ 65536
  pub count : t.rows ≤ t.room
  pub cells : t.room * t.columns ≤ length rows
  pub long : 2 * t.room ≤ length store

-- the same for a row store without room for more rows
pub record RowsFit (t : IndexShape) (rows store : List ℕ) : Type 0 where
  pub some_columns : 1 ≤ t.columns
  pub some_keys : 1 ≤ t.keys
  pub within : RowsIn t rows
  pub slots_fit : SlotsFit t.room store

-- live rows have different keys
abbrev pub KeysDiffer : IndexShape → List ℕ → Type 0
KeysDiffer t rows = (i j : ℕ) → LiveAt t rows i → LiveAt t rows j → key_at t rows i ≡ key_at t rows j → i ≡ j

-- ---- lookup

-- a slot's word is that of a row below the row count that has this key, with the bits of this hash
pub record Leads (t : IndexShape) (rows key : List ℕ) (hash w row : ℕ) : Type 0 where
  pub tag : w ≡ tagged hash row
  pub below : row < t.rows
  pub cells : key_at t rows row ≡ key

-- the answer decides `Leads`; `row` is the row number in the word
pub record HitIs (t : IndexShape) (rows key : List ℕ) (hash w row : ℕ) (r : Bool) : Type 0 where
  pub yes : r ≡ true → Leads t rows key hash w row
  pub no : r ≡ false → (i : ℕ) → Leads t rows key hash w i → ⊥

-- the live row with a key, and its slot
pub record FoundAt (t : IndexShape) (rows store key : List ℕ) (row slot : ℕ) : Type 0 where
  pub live : LiveAt t rows row
  pub key_is : key_at t rows row ≡ key
  pub slot_in : slot < slots t
  pub word_is : get_or store slot 0 ≡ word key row

-- the slot d after the hash's home is the first whose word leads to a row with the key. So the row found is unique
pub record FirstHit (t : IndexShape) (rows store key : List ℕ) (hash row d : ℕ) : Type 0 where
  pub leads : Leads t rows key hash (get_or store (slot_from (slots t) (spread (slots t) hash) d) 0) row
  pub way : (e : ℕ) → e < d → (i : ℕ) → Leads t rows key hash (get_or store (slot_from (slots t) (spread (slots t) hash) e) 0) i → ⊥

-- The result of a lookup. On any store the row and the slot exist, and the row is determined. The rest holds for a sound store and
-- the key's own hash.
pub record FoundIs (t : IndexShape) (rows store key : List ℕ) (hash : ℕ) (r : Option Hit) : Type 0 where
  pub row_in : (hit : Hit) → r ≡ Some hit → hit.row < t.rows
  pub slot_in : (hit : Hit) → r ≡ Some hit → hit.slot < slots t
  pub first : (hit : Hit) → r ≡ Some hit → (d : ℕ) × FirstHit t rows store key hash hit.row d
  pub none : hash ≡ compact_hash (key_hash key) → KeysSound t rows store → r ≡ None → (i : ℕ) → LiveAt t rows i → key_at t rows i ≡ key → ⊥
  pub at : hash ≡ compact_hash (key_hash key) → KeysSound t rows store → (hit : Hit) → r ≡ Some hit → FoundAt t rows store key hit.row hit.slot

-- ---- insertion of a row, and clearing all slots

-- the slot d after `start` is the first free one
pub record FirstFree (n : ℕ) (store : List ℕ) (start d : ℕ) : Type 0 where
  pub below : d < n
  pub free : get_or store (slot_from n start d) 0 ≡ 0
  pub way : (e : ℕ) → e < d → get_or store (slot_from n start e) 0 ≡ 0 → ⊥

-- the word is written to the first free slot from the hash's home on, if there is one
pub record PutIs (n : ℕ) (store : List ℕ) (hash row : ℕ) (r : Bool) (store' : List ℕ) : Type 0 where
  pub yes : r ≡ true → (d : ℕ) × FirstFree n store (spread n hash) d × (store' ≡ set store (slot_from n (spread n hash) d) (tagged hash row))
  pub full : r ≡ false → (slot : ℕ) → slot < n → get_or store slot 0 ≡ 0 → ⊥
  pub kept : r ≡ false → store' ≡ store
  pub tail : drop n store' ≡ drop n store

-- the word is written as by `put` if no live row has the key; this and the converse hold for a sound store and the key's own hash
pub record NewPutIs (t : IndexShape) (rows store key : List ℕ) (hash row : ℕ) (r : Bool) (store' : List ℕ) : Type 0 where
  pub put : r ≡ true → PutIs (slots t) store hash row true store'
  pub new : r ≡ true → hash ≡ compact_hash (key_hash key) → KeysSound t rows store → (i : ℕ) → LiveAt t rows i → key_at t rows i ≡ key → ⊥
  pub known : r ≡ false → hash ≡ compact_hash (key_hash key) → KeysSound t rows store → (i : ℕ) × LiveAt t rows i × (key_at t rows i ≡ key)

-- n free slots
abbrev pub zeros : ℕ → List ℕ
zeros n = replicate n 0

-- all slots are free, and the words past them are unchanged
pub record EmptyIs (room : ℕ) (store store' : List ℕ) : Type 0 where
  pub free : store' ≡ splice store 0 (zeros (2 * room))
  pub tail : drop (2 * room) store' ≡ drop (2 * room) store

-- the home slot of the key of the row that a word encodes
unfoldable pub home_of : IndexShape → List ℕ → ℕ → ℕ
home_of t rows w = home (slots t) (key_at t rows (row_named w))

-- The key index (document 01, "Key index"): what a key store must hold. The layout is our choice. The first
-- 2 × `size_class_for` slots are in use; the others may hold anything. A slot in use is 0 if it is free. Otherwise it has the number of a
-- live row plus 1 in its low 17 bits and 15 bits of the key's compact hash above them; if those differ from the sought key's, the row
-- need not be read. A key's home slot is its compact hash scaled to the number of slots. A live row is in its key's home slot or in a
-- later one, cyclically, with no free slot in between. So a scan from a key's home slot finds the key's live row, or a free slot if it
-- has none. No mark of a removed row stays, so freed slots are used again. What a lookup returns is stated in the paper's terms by
-- `table` `LookedUp`. Assumes nothing.
use Rattle.std.specs.Prelude.{ℕ, ◌+◌, ◌*◌, ◌/◌, ◌%◌, ◌^◌, ◌<◌, min, ◌≡◌, true, cond, List, leb, take, get_or}
use Rattle.lists.specs.Lists.{row_at}
use Rattle.cells.specs.Cells.{compact_hash, key_hash}
use Rattle.constraints.specs.Constraints.{is_live}
use Rattle.key_index.specs.declared.IndexShape.{IndexShape}

-- row i is a live row of the table
abbrev pub LiveAt : IndexShape → List ℕ → ℕ → Type 0
LiveAt t rows i = (i < t.rows) × (is_live (row_at t.columns i rows) ≡ true)

-- the key of row i, "the first 1 to n columns"
abbrev pub key_at : IndexShape → List ℕ → ℕ → List ℕ
key_at t rows i = take t.keys (row_at t.columns i rows)

-- the smallest of five size classes into which this many rows fit
unfoldable pub size_class : ℕ → ℕ
size_class rows = cond (leb rows 128) 128 (cond (leb rows 512) 512 (cond (leb rows 2048) 2048 (cond (leb rows 8192) 8192 65536)))

-- the number of rows that the slots in use are sized for, two slots for each: the size class, but at most the capacity
unfoldable pub size_class_for : ℕ → ℕ → ℕ
size_class_for capacity rows = min capacity (size_class rows)

abbrev pub slots : IndexShape → ℕ
slots t = 2 * t.room

-- the word of a row: the row's number plus 1, and the low 15 bits of the key's compact hash above it
unfoldable pub word : List ℕ → ℕ → ℕ
word key row = compact_hash (key_hash key) % 2 ^ 15 * 2 ^ 17 + (row + 1)

-- a key's home slot: its compact hash, of 32 bits, scaled to n slots
unfoldable pub home : ℕ → List ℕ → ℕ
home n key = compact_hash (key_hash key) * n / 2 ^ 32

-- the slot d after another, cyclically
unfoldable pub slot_from : ℕ → ℕ → ℕ → ℕ
slot_from n start d = (start + d) % n

-- a row is in the slot d after its key's home, and no slot before it on that path is free
pub record ReachableAt (n : ℕ) (store key : List ℕ) (row d : ℕ) : Type 0 where
  pub below : d < n
  pub there : get_or store (slot_from n (home n key) d) 0 ≡ word key row
  pub way : (e : ℕ) → e < d → get_or store (slot_from n (home n key) e) 0 ≡ 0 → ⊥

-- "the key store leads to exactly the live rows"
pub record KeysSound (t : IndexShape) (rows store : List ℕ) : Type 0 where
  -- a slot that is not free has the word of a live row
  pub only_live : (slot : ℕ) → slot < slots t → 0 < get_or store slot 0
      → (row : ℕ) × LiveAt t rows row × (get_or store slot 0 ≡ word (key_at t rows row) row)
  -- no two slots have the same word
  pub once : (a b : ℕ) → a < slots t → b < slots t → 0 < get_or store a 0 → get_or store a 0 ≡ get_or store b 0 → a ≡ b
  -- each live row has a slot
  pub leads : (row : ℕ) → LiveAt t rows row → (d : ℕ) × ReachableAt (slots t) store (key_at t rows row) row d

-- The check of a key store: contracts of its functions. It tests that each live row is reached from its key's home, and that taken
-- slots and live rows are equally many. Then no taken slot is left for a word of no live row, or for a second word of one. Assumes
-- nothing.
use Rattle.std.specs.Prelude.{ℕ, zero, suc, ◌<◌, ◌≡◌, Bool, cond, List, ltb, get_or}
use Rattle.lists.specs.Lists.{row_at}
use Rattle.cells.specs.Cells.{compact_hash, key_hash}
use Rattle.constraints.specs.Constraints.{is_live}
use Rattle.key_index.specs.declared.IndexShape.{IndexShape}
use Rattle.key_index.specs.Slots.{key_at, slots, slot_from, KeysSound}
use Rattle.key_index.specs.inner.Ring.{spread, tagged}
use Rattle.key_index.specs.inner.Index.{Leads, KeysDiffer}

-- ---- counts

unfoldable pub is_live_row : IndexShape → List ℕ → ℕ → Bool
is_live_row t rows i = is_live (row_at t.columns i rows)

-- how many of the numbers below n pass a test
unfoldable pub tally : (ℕ → Bool) → ℕ → ℕ
tally test zero = 0
tally test (suc n) = cond (test n) (suc (tally test n)) (tally test n)

abbrev pub live_count : IndexShape → List ℕ → ℕ
live_count t rows = tally (is_live_row t rows) t.rows

-- how many of the first n slots are taken
unfoldable pub is_taken : List ℕ → ℕ → Bool
is_taken store slot = ltb 0 (get_or store slot 0)

abbrev pub taken_count : List ℕ → ℕ → ℕ
taken_count store n = tally (is_taken store) n

-- ---- rows that are reached

-- the slot d after the hash's home has the row's word, and no slot before it is free or leads to a row with the key
pub record ReachedAt (t : IndexShape) (rows store key : List ℕ) (hash row d : ℕ) : Type 0 where
  pub below : d < slots t
  pub there : get_or store (slot_from (slots t) (spread (slots t) hash) d) 0 ≡ tagged hash row
  pub taken : (e : ℕ) → e < d → get_or store (slot_from (slots t) (spread (slots t) hash) e) 0 ≡ 0 → ⊥
  pub others : (e : ℕ) → e < d → (i : ℕ) → Leads t rows key hash (get_or store (slot_from (slots t) (spread (slots t) hash) e) 0) i → ⊥

abbrev pub Reached : IndexShape → List ℕ → List ℕ → List ℕ → ℕ → ℕ → Type 0
Reached t rows store key hash row = (d : ℕ) × ReachedAt t rows store key hash row d

-- a row is reached from the home of its own key
abbrev pub Own : IndexShape → List ℕ → List ℕ → ℕ → Type 0
Own t rows store row = Reached t rows store (key_at t rows row) (compact_hash (key_hash (key_at t rows row))) row

-- ---- the whole store

-- the part of soundness that concerns the key store
pub record KeyStoreSound (t : IndexShape) (rows store : List ℕ) : Type 0 where
  pub keys_sound : KeysSound t rows store
  pub keys_differ : KeysDiffer t rows

-- Contract of a compaction: what it requires of the lent stores, and its effect on stores that represent a plain table.
-- Assumes nothing.
use Rattle.std.specs.Prelude.{ℕ, ◌+◌, ◌*◌, ◌/◌, ◌≤◌, ◌<◌, ◌≡◌, List, [], length}
use Rattle.lists.specs.inner.Searching.{map_front}
use Rattle.key_index.specs.Slots.{slots}
use Rattle.key_index.specs.inner.Index.{Fits}
use Rattle.key_rebuild.specs.inner.Rebuilding.{Rebuilt}
use Rattle.key_rebuild.specs.inner.Renumbering.{renumbered}
use Rattle.plain_table.specs.Plain.{Plain, compacted}
use Rattle.table.specs.Numbers.{opening_of, header}
use Rattle.table.specs.declared.Header.{Header}
use Rattle.table.specs.Stores.{header_of, row_store, sort_store}
use Rattle.table.specs.Sound.{index_shape_of}
use Rattle.table.specs.inner.FullIndexShape.{full_index_shape_of}
use Rattle.table.specs.Outcomes.{stores, Represents, SamePast}

-- numbers within their bounds, and stores and compaction words that are long enough
pub record Lendable (h : Header) (rows keys sorts live base : List ℕ) : Type 0 where
  pub fits : Fits (full_index_shape_of h) rows keys
  pub sort_column : h.sort < h.columns
  pub sorts_long : 2 * h.capacity ≤ length sorts
  pub live_long : (h.capacity + 63) / 64 ≤ length live
  pub base_long : (h.capacity + 63) / 64 ≤ length base

-- The key store under another header. With the same number of slots, its words have the new row numbers; otherwise it is rebuilt
-- over the rows as they are now.
pub record KeysUpdated (h h' : Header) (rows' keys live base keys' : List ℕ) : Type 0 where
  pub numbers : (index_shape_of h').room ≡ (index_shape_of h).room → keys' ≡ map_front (renumbered (index_shape_of h) live base) (slots (index_shape_of h)) keys
  pub rebuilt_keys : ((index_shape_of h').room ≡ (index_shape_of h).room → ⊥) → Rebuilt (index_shape_of h') rows' keys keys'

-- the header of the next generation
abbrev pub next_generation : Header → Header
next_generation h = header (opening_of h) h.rows h.dead h.entries h.pending (h.generation + 1) h.largest

pub record ClosedUp (h : Header) (rows keys sorts : List ℕ) (h' : Header) (rows' keys' sorts' pending : List ℕ) (p : Plain) : Type 0 where
  pub header : h' ≡ header_of (compacted p)
  pub rows_after : rows' ≡ row_store (compacted p) [] rows
  pub sorts_after : sorts' ≡ sort_store (compacted p) sorts
  pub represents : Represents (compacted p) (stores h' rows' keys' sorts' pending)

pub record Compaction (h : Header) (rows keys sorts live base : List ℕ) (h' : Header) (rows' keys' sorts' live' base' : List ℕ) : Type 0 where
  pub past : SamePast (2 * h.capacity) keys keys'
  pub words_past : SamePast ((h.capacity + 63) / 64) live live' × SamePast ((h.capacity + 63) / 64) base base'
  pub table : (pending : List ℕ) (p : Plain) → Represents p (stores h rows keys sorts pending)
      → ClosedUp h rows keys sorts h' rows' keys' sorts' pending p

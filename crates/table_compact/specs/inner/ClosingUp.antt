-- Contracts of the parts of a compaction: one live row kept, the live rows of a block kept, and the stores after all live rows have
-- moved down. They mention no plain table, so they hold for any stores. Assumes nothing.
use Rattle.std.specs.Prelude.{ℕ, ◌+◌, ◌*◌, ◌/◌, ◌≤◌, ◌<◌, ◌≡◌, List, map, length, get_or}
use Rattle.lists.specs.Lists.{splice, filter, row_at, rows_of, flatten}
use Rattle.constraints.specs.Constraints.{is_live}
use Rattle.row_buffer.specs.Ranks.{live_word}
use Rattle.sort_entries.specs.Entries.{Entry, entry_words, rebuilt}
use Rattle.sort_entries.specs.inner.Append.{EntryFits, Append}
use Rattle.key_index.specs.Slots.{LiveAt}
use Rattle.key_index.specs.inner.Index.{RowsIn}
use Rattle.key_rebuild.specs.inner.Renumbering.{live_below, new_row}
use Rattle.table.specs.declared.Header.{Header}
use Rattle.table_compact.specs.declared.KeptCounts.{KeptCounts}
use Rattle.table.specs.Sound.{index_shape_of}
use Rattle.table.specs.inner.FullIndexShape.{full_index_shape_of}
use Rattle.table.specs.Outcomes.{SamePast}

-- the live rows among the first n rows of a store, in order
unfoldable pub live_stored : ℕ → ℕ → List ℕ → List (List ℕ)
live_stored w n rows = filter is_live (rows_of w n rows)

-- the sort entries of rows of cells
unfoldable pub entries_for : ℕ → List (List ℕ) → List Entry
entries_for sort rows = rebuilt (map (λ row. get_or row sort 0) rows)

-- the rows of a table that remain
abbrev pub closed_rows : Header → List ℕ → List (List ℕ)
closed_rows h rows = live_stored h.columns h.rows rows

-- numbers within their bounds, and row and sort stores that are long enough
pub record Movable (h : Header) (rows sorts : List ℕ) : Type 0 where
  pub within : RowsIn (full_index_shape_of h) rows
  pub sort_column : h.sort < h.columns
  pub sorts_long : 2 * h.capacity ≤ length sorts

-- the same, with compaction words that are long enough
pub record Closable (h : Header) (rows sorts live base : List ℕ) : Type 0 where
  pub movable : Movable h rows sorts
  pub live_long : (h.capacity + 63) / 64 ≤ length live
  pub base_long : (h.capacity + 63) / 64 ≤ length base

-- a row can be kept: its new place is at or below its old one, and its sort entry fits
pub record Keepable (h : Header) (rows sorts : List ℕ) (row : ℕ) (kept : KeptCounts) : Type 0 where
  pub within : RowsIn (full_index_shape_of h) rows
  pub sort_column : h.sort < h.columns
  pub row_below : row < h.rows
  pub moves_down : kept.rows ≤ row
  pub room : EntryFits sorts kept.entries

-- the row is moved and recorded in the sort entries, whose number is then r
pub record RowKept (h : Header) (rows sorts : List ℕ) (row : ℕ) (kept : KeptCounts) (r : ℕ) (rows' sorts' : List ℕ) : Type 0 where
  pub moved : rows' ≡ splice rows (kept.rows * h.columns) (row_at h.columns row rows)
  pub recorded : Append sorts kept.entries (get_or (row_at h.columns row rows) h.sort 0) kept.rows r sorts'

-- the live rows before row `row` have moved down, and all other cells are unchanged
pub record Closing (h : Header) (rows₀ sorts₀ rows sorts : List ℕ) (kept : KeptCounts) (row : ℕ) : Type 0 where
  pub row_in : row ≤ h.rows
  pub kept_few : kept.rows ≤ row
  pub entries_few : kept.entries ≤ kept.rows
  pub rows_same : length rows ≡ length rows₀
  pub sorts_same : length sorts ≡ length sorts₀
  pub counted : kept.rows ≡ length (live_stored h.columns row rows₀)
  pub closed : rows ≡ splice rows₀ 0 (flatten (live_stored h.columns row rows₀))
  pub entered : kept.entries ≡ length (entries_for h.sort (live_stored h.columns row rows₀))
  pub recorded : sorts ≡ splice sorts₀ 0 (entry_words (entries_for h.sort (live_stored h.columns row rows₀)))

-- the bitmap word of the live rows among up to 64 rows
abbrev pub block_word : Header → List ℕ → ℕ → ℕ → ℕ
block_word h rows first count = live_word is_live (rows_of h.columns h.rows rows) first count

-- the rows before the block have moved down, from some initial stores, and `word` is the bitmap of the block's live rows
pub record Block (h : Header) (rows sorts : List ℕ) (first word : ℕ) (kept : KeptCounts) : Type 0 where
  pub rows₀ : List ℕ
  pub sorts₀ : List ℕ
  pub count : ℕ
  pub movable : Movable h rows₀ sorts₀
  pub few : count ≤ 64
  pub inside : first + count ≤ h.rows
  pub marked : word ≡ block_word h rows₀ first count
  pub closing : Closing h rows₀ sorts₀ rows sorts kept first

-- the rows of the block have moved down too
pub record BlockKept (h : Header) (rows sorts : List ℕ) (first word : ℕ) (kept r : KeptCounts) (rows' sorts' : List ℕ) : Type 0 where
  pub on : (b : Block h rows sorts first word kept) → Closing h b.rows₀ b.sorts₀ rows' sorts' r (first + b.count)

-- all live rows have moved down, and the compaction words give their new numbers
pub record Closed (h : Header) (rows sorts live base : List ℕ) (kept : KeptCounts) (rows' sorts' live' base' : List ℕ) : Type 0 where
  pub rows_counted : kept.rows ≡ length (closed_rows h rows)
  pub rows_after : rows' ≡ splice rows 0 (flatten (closed_rows h rows))
  pub entries_counted : kept.entries ≡ length (entries_for h.sort (closed_rows h rows))
  pub sorts_after : sorts' ≡ splice sorts 0 (entry_words (entries_for h.sort (closed_rows h rows)))
  pub numbered : (i : ℕ) → LiveAt (index_shape_of h) rows i → new_row live' base' i ≡ live_below (index_shape_of h) rows i
  pub words_past : SamePast ((h.capacity + 63) / 64) live live' × SamePast ((h.capacity + 63) / 64) base base'

-- the header after the compaction
abbrev pub closed_header : Header → KeptCounts → Header
closed_header h kept =
    record {
      columns = h.columns;
      keys = h.keys;
      sort = h.sort;
      rule = h.rule;
      capacity = h.capacity;
      rows = kept.rows;
      dead = 0;
      entries = kept.entries;
      pending = h.pending;
      generation = h.generation + 1;
      largest = h.largest;
    }

-- The contracts of the entry points: what holds on every input, and what holds on stores that represent a plain table. A function's
-- `ensures` is the record that is named after its operation, over the lent stores before and after the call; a history of calls
-- consists of these records.
-- A store without a primed name is lent shared, or not lent, and does not change. First come the stores as records, and when they
-- represent a plain table (`Represents`). Assumes nothing.
use Rattle.table.specs.declared.Version.{Version}
use Rattle.sort_entries.specs.declared.Range.{Range}
use Rattle.refusals.specs.declared.Refusal.{Refusal}
use Rattle.std.specs.Prelude.{ℕ, ◌+◌, ◌*◌, ◌/◌, ◌<◌, ◌≡◌, true, false, cond, not, ◌||◌, List, [], length, drop, get_or, eqb, Result, Option as Optional, Bool}
use Rattle.std.proofs.Math.Option.{Option, none, some, map}
use Rattle.lists.specs.Lists.{splice, rows_of}
use Rattle.refusals.specs.Refusals.{accepted, reply, outcome}
use Rattle.offsets.specs.Subsets.{Subset, range}
use Rattle.constraints.specs.declared.Constraint.{Constraint}
use Rattle.sort_entries.specs.Entries.{Entry, entries_of, entries_sound, fast_range}
use Rattle.key_index.specs.Slots.{KeysSound}
use Rattle.plain_table.specs.Staged.{Opening, Staged, words_of}
use Rattle.plain_table.specs.Refusing.{Lengths, stores_short, open_refusal}
use Rattle.plain_table.specs.Plain.{Plain, lookup, opened, applied, added, compacts_after, merged, merge_keeps, merge_drops, compacted, cleared}
use Rattle.plain_table.specs.Proper.{Proper}
use Rattle.table.specs.declared.Header.{Header}
use Rattle.table.specs.declared.Merge.{Merge}
use Rattle.refusals.specs.Refusals.{answer_view, found_view}
use Rattle.table.specs.Numbers.{opening_of, largest_view, header, range_view}
use Rattle.table.specs.Refusing.{stage_refusal, merge_refusal, compact_refusal, clear_refusal, lookup_refusal, cell_refusal, fast_refusal, version_refusal, since_refusal, noted_refusal, sound_refusal}
use Rattle.table.specs.Stores.{header_of, row_store, sort_store, record_words, rows_in, Shows}
use Rattle.table.specs.Sound.{index_shape_of, KeysDiffer, Sound}

-- a table's header and stores
pub record Stores : Type 0 where
  pub header : Header
  pub rows : List ℕ
  pub keys : List ℕ
  pub sorts : List ℕ
  pub pending : List ℕ

abbrev pub stores : Header → List ℕ → List ℕ → List ℕ → List ℕ → Stores
stores h rows keys sorts pending = record { header = h; rows = rows; keys = keys; sorts = sorts; pending = pending }

-- rows, keys and sort entries: the stores that a merge and a compaction write
pub record Body : Type 0 where
  pub rows : List ℕ
  pub keys : List ℕ
  pub sorts : List ℕ

abbrev pub body : List ℕ → List ℕ → List ℕ → Body
body rows keys sorts = record { rows = rows; keys = keys; sorts = sorts }

abbrev pub body_of : Stores → Body
body_of s = body s.rows s.keys s.sorts

-- the stores made of these, a header and a pending store
abbrev pub joined : Header → Body → List ℕ → Stores
joined h b pending = stores h b.rows b.keys b.sorts pending

-- the compaction words: for each 64 rows a word that marks the live ones, and the new number of the first of them
pub record CompactionWords : Type 0 where
  pub live : List ℕ
  pub base : List ℕ

abbrev pub compaction_words : List ℕ → List ℕ → CompactionWords
compaction_words live base = record { live = live; base = base }

-- the lengths of stores and compaction words
abbrev pub lengths : List ℕ → List ℕ → List ℕ → List ℕ → List ℕ → List ℕ → Lengths
lengths rows keys sorts pending live base =
    record { rows = length rows; keys = length keys; sorts = length sorts; pending = length pending; live_words = length live; base_words = length base }

abbrev pub lengths_lent : Stores → CompactionWords → Lengths
lengths_lent s w = lengths s.rows s.keys s.sorts s.pending w.live w.base

-- The header and stores represent a plain table: the stores are long enough; header and stores show its numbers, rows, sort entries and
-- staged records (`Shows`); it has the properties of every plain table that calls lead to (`Proper`); and the key store leads to its
-- live rows (`KeysSound`). `Sound` is the paper's word and is defined on stores alone. The two agree: stores whose generation is a u32,
-- as it always is in a header, are sound exactly if they represent some plain table (Laws/Sound).
pub record Represents (p : Plain) (s : Stores) : Type 0 where
  pub proper : Proper p
  pub long_enough : stores_short p.opening (lengths s.rows s.keys s.sorts s.pending [] []) ≡ false
  pub shown : Shows p s.header s.rows s.sorts s.pending
  pub keys_sound : KeysSound (index_shape_of s.header) s.rows s.keys

-- The cells past the first n are unchanged. Contracts state it of key slots past 2 × capacity, and of compaction words and index words
-- past those needed.
abbrev pub SamePast : ℕ → List ℕ → List ℕ → Type 0
SamePast n cells cells' = drop n cells' ≡ drop n cells

abbrev pub WordsPast : ℕ → CompactionWords → CompactionWords → Type 0
WordsPast capacity w w' = SamePast ((capacity + 63) / 64) w.live w'.live × SamePast ((capacity + 63) / 64) w.base w'.base

-- Choices of the program: the contracts require only that the key store is sound and that no slot past it is written. After a
-- compaction they require nothing of the compaction words that it needs.

-- the refusal of an opening on these stores
abbrev pub open_refusal_on : Opening → Body → List ℕ → ℕ
open_refusal_on o b pending = open_refusal o (lengths b.rows b.keys b.sorts pending [] [])

-- *Open*: lent rows, keys, sort entries and pending; all but keys are lent shared, so they do not change
pub record Opened (o : Opening) (generation : ℕ) (b : Body) (pending : List ℕ) (answer : Result Header Refusal) (keys' : List ℕ) : Type 0 where
  pub answers : answer_view answer ≡ reply (open_refusal_on o b pending) (header_of (opened o generation))
  pub unchanged : 0 < open_refusal_on o b pending → keys' ≡ b.keys
  pub past : SamePast (2 * o.capacity) b.keys keys'
  pub represents : open_refusal_on o b pending ≡ 0 → Represents (opened o generation) (stores (header_of (opened o generation)) b.rows keys' b.sorts pending)

-- *Stage*: lent pending. The contract holds for any table, since the call reads only the header and the length of the pending store.
abbrev pub with_pending : Header → ℕ → Header
with_pending h pending = header (opening_of h) h.rows h.dead h.entries pending h.generation h.largest

pub record Staging (h : Header) (pending : List ℕ) (r : Staged) (answer : Result Header Refusal) (pending' : List ℕ) : Type 0 where
  pub answers : answer_view answer ≡ reply (stage_refusal h (length pending) r) (with_pending h (h.pending + words_of (opening_of h) r))
  pub unchanged : 0 < stage_refusal h (length pending) r → pending' ≡ pending
  pub written : stage_refusal h (length pending) r ≡ 0 → pending' ≡ splice pending h.pending (record_words h.keys r)

-- *Merge*: lent all stores and compaction words; pending is lent shared. The paper's refusals 8 and 9 stop a merge that was
-- accepted: `status` has them. The contract holds for every plain table that the stores represent; these differ only in cells of dead
-- rows, and nothing in the contract depends on those cells.
abbrev pub merge_of : Plain → Merge
merge_of p =
    let m = merged p in
    record { header = header_of m.table; status = m.status; place = m.place; added = added p; kept = merge_keeps p; dropped = merge_drops p }

-- a store after a merge, given its contents after the removals and inserts; a compaction, if there is one, writes over those. After a
-- compaction every row is live, so `rows_after` below gives `row_store` an empty list of old rows
unfoldable pub merged_store : Plain → (List ℕ → List ℕ) → List ℕ → List ℕ
merged_store p compaction written = cond (compacts_after (applied p).status (applied p).table) (compaction written) written

module _ (s : Stores) (w : CompactionWords) (answer : Result Merge Refusal) (b' : Body) (w' : CompactionWords) where
  pub record MergedTable (p : Plain) : Type 0 where
    pub answers : answer_view answer ≡ accepted (merge_of p)
    pub rows_after : b'.rows
        ≡ merged_store p (row_store (merged p).table []) (row_store (applied p).table (rows_of s.header.columns s.header.rows s.rows) s.rows)
    pub sorts_after : b'.sorts ≡ merged_store p (sort_store (merged p).table) (sort_store (applied p).table s.sorts)
    pub represents : Represents (merged p).table (joined (header_of (merged p).table) b' s.pending)
    -- compaction words are "unchanged where nothing is compacted"
    pub words : (merged p).table.generation ≡ p.generation → w' ≡ w

  pub record Merging : Type 0 where
    pub refusal : outcome (answer_view answer) ≡ reply (merge_refusal s.header (lengths_lent s w)) tt
    pub unchanged : 0 < merge_refusal s.header (lengths_lent s w) → (b' ≡ body_of s) × (w' ≡ w)
    pub past : SamePast (2 * s.header.capacity) s.keys b'.keys
    pub words_past : WordsPast s.header.capacity w w'
    pub table : merge_refusal s.header (lengths_lent s w) ≡ 0 → (p : Plain) → Represents p s → MergedTable p

-- *Compact*: lent rows, keys, sort entries and compaction words
module _ (h : Header) (b : Body) (w : CompactionWords) (answer : Result Header Refusal) (b' : Body) (w' : CompactionWords) where
  pub record CompactedTable (pending : List ℕ) (p : Plain) : Type 0 where
    pub answers : answer_view answer ≡ accepted (header_of (compacted p))
    pub rows_after : b'.rows ≡ row_store (compacted p) [] b.rows
    pub sorts_after : b'.sorts ≡ sort_store (compacted p) b.sorts
    pub represents : Represents (compacted p) (joined (header_of (compacted p)) b' pending)

  pub record Compacting : Type 0 where
    pub refusal : outcome (answer_view answer) ≡ reply (compact_refusal h (lengths_lent (joined h b []) w)) tt
    pub unchanged : 0 < compact_refusal h (lengths_lent (joined h b []) w) → (b' ≡ b) × (w' ≡ w)
    pub past : SamePast (2 * h.capacity) b.keys b'.keys
    pub words_past : WordsPast h.capacity w w'
    pub table : compact_refusal h (lengths_lent (joined h b []) w) ≡ 0
        → (pending : List ℕ) (p : Plain) → Represents p (joined h b pending) → CompactedTable pending p

-- *Clear*: lent keys
module _ (h : Header) (keys : List ℕ) (answer : Result Header Refusal) (keys' : List ℕ) where
  pub record ClearedTable (rows sorts pending : List ℕ) (p : Plain) : Type 0 where
    pub answers : answer_view answer ≡ accepted (header_of (cleared p))
    pub represents : Represents (cleared p) (stores (header_of (cleared p)) rows keys' sorts pending)

  pub record Clearing : Type 0 where
    pub refusal : outcome (answer_view answer) ≡ reply (clear_refusal h (length keys)) tt
    pub unchanged : 0 < clear_refusal h (length keys) → keys' ≡ keys
    pub past : SamePast (2 * h.capacity) keys keys'
    pub table : clear_refusal h (length keys) ≡ 0
        → (rows sorts pending : List ℕ) (p : Plain) → Represents p (stores h rows keys sorts pending) → ClearedTable rows sorts pending p

-- *Key lookup, one cell*: lent rows and keys. The contract takes the rows in the store as a plain table (`of_rows`). It assumes that the
-- key store is sound and that live keys differ. "No live row is *none*"
abbrev pub of_rows : Header → List ℕ → Plain
of_rows h rows = record { opening = opening_of h; generation = h.generation; rows = rows_in h rows; staged = []; largest = largest_view h.largest }

pub record LookedUp (h : Header) (rows keys key : List ℕ) (answer : Result (Optional ℕ) Refusal) : Type 0 where
  pub refusal : outcome (found_view answer) ≡ reply (lookup_refusal h (length rows) (length keys) (length key)) tt
  pub table : lookup_refusal h (length rows) (length keys) (length key) ≡ 0 → KeysSound (index_shape_of h) rows keys → KeysDiffer h rows
      → found_view answer ≡ accepted (map (λ row. row.number) (lookup (of_rows h rows) key))

pub record CellRead (h : Header) (rows keys key : List ℕ) (column : ℕ) (answer : Result (Optional ℕ) Refusal) : Type 0 where
  pub refusal : outcome (found_view answer) ≡ reply (cell_refusal h (length rows) (length keys) (length key) column) tt
  pub table : cell_refusal h (length rows) (length keys) (length key) column ≡ 0 → KeysSound (index_shape_of h) rows keys → KeysDiffer h rows
      → found_view answer ≡ accepted (map (λ row. get_or row.cells column 0) (lookup (of_rows h rows) key))

-- *Fast range*: lent sort entries. "answers *none* for kind 0 and for any column but the sort column"
unfoldable pub fast_among : ℕ → List Entry → ℕ → Constraint → Option Subset
fast_among sort es count c =
    cond (eqb c.kind 0 || not (eqb c.column sort)) none (some (fast_range c.kind c.value es count))

unfoldable pub fast_subset : Header → List ℕ → Constraint → Option Subset
fast_subset h sorts c = fast_among h.sort (entries_of h.entries sorts) h.rows c

pub record RangeRead (h : Header) (sorts : List ℕ) (c : Constraint) (answer : Result (Optional Range) Refusal) : Type 0 where
  pub refusal : outcome (range_view answer) ≡ reply (fast_refusal h (length sorts) c) tt
  pub table : fast_refusal h (length sorts) c ≡ 0 → entries_sound (entries_of h.entries sorts) h.rows ≡ true
      → range_view answer ≡ accepted (fast_subset h sorts c)

-- *Version*, *Rows since*: for any table
pub record VersionRead (h : Header) (answer : Result Version Refusal) : Type 0 where
  pub answers : answer_view answer ≡ reply (version_refusal h) (record { generation = h.generation; rows = h.rows })

pub record RowsSince (h : Header) (row : ℕ) (answer : Result (Optional Range) Refusal) : Type 0 where
  pub answers : range_view answer ≡ reply (since_refusal h row) (some (range row h.rows))

-- "Given that version, the table answers the rows since then": for any table
pub record RowsSinceVersion (h : Header) (generation count : ℕ) (answer : Result (Optional Range) Refusal) : Type 0 where
  pub answers : range_view answer ≡ reply (noted_refusal h generation count) (some (range count h.rows))

-- the soundness check: lent all stores. It "says yes exactly for sound stores"
pub record Checked (h : Header) (rows keys sorts pending : List ℕ) (answer : Result Bool Refusal) : Type 0 where
  pub refusal : outcome (answer_view answer) ≡ reply (sound_refusal h (length rows) (length keys) (length sorts) (length pending)) tt
  pub sound : answer_view answer ≡ accepted true → (staged : List Staged) × Sound h rows keys sorts pending staged
  pub unsound : answer_view answer ≡ accepted false → (staged : List Staged) → Sound h rows keys sorts pending staged → ⊥

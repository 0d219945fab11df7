-- Contracts of the parts of an append: a row adds its sort entry or stops the merge, is appended for a new key, or replaces the old
-- row of a known key. They hold for any stores, sound or not. Assumes nothing.
use Rattle.std.specs.Prelude.{ℕ, ◌+◌, ◌*◌, ◌≤◌, ◌<◌, ◌≡◌, Bool, true, false, not, List, [], ◌∷◌, leb, eqb, length, get_or, set}
use Rattle.lists.specs.Lists.{splice}
use Rattle.refusals.specs.Refusals.{check, first_refusal}
use Rattle.sort_entries.specs.Entries.{entries_of, entry_words}
use Rattle.sort_entries.specs.Laws.Push.{push}
use Rattle.key_index.specs.Slots.{size_class_for, slots, KeysSound}
use Rattle.key_index.specs.inner.Ring.{tagged}
use Rattle.key_index.specs.inner.Index.{Fits, PutIs}
use Rattle.key_rebuild.specs.inner.Rebuilding.{Rebuilt}
use Rattle.plain_table.specs.Plain.{below}
use Rattle.table.specs.declared.Header.{Header}
use Rattle.std.specs.Prelude.{Option, Some, Result, Ok, Err}
use Rattle.table.specs.Numbers.{largest_view}
use Rattle.merge_insert.specs.declared.append.Stop.{Stop}
use Rattle.merge_insert.specs.declared.append.Stop.TheVariants.{TableFull, OldSortValue}
use Rattle.table.specs.Sound.{index_shape_of}
use Rattle.table.specs.inner.FullIndexShape.{full_index_shape_of}
use Rattle.table.specs.Outcomes.{SamePast}
use Rattle.merge_pending.specs.inner.Becoming.{with_counts}

-- ---- the answers

-- the number of each stop
abbrev pub stop_number : Stop → ℕ
stop_number TableFull = 8
stop_number OldSortValue = 9

-- an insert: the header if a row was appended, or a stop
abbrev pub Insertion : Type 0
Insertion = Result (Option Header) Stop

-- an append, as the insert that it is
abbrev pub appended : Result Header Stop → Insertion
appended (Ok h) = Ok (Some h)
appended (Err stop) = Err stop

-- ---- the sort entry of a row

-- "8, row count equals capacity, tested before 9", "a sort value below that kept value"; 0 if neither
unfoldable pub stop_at : Header → ℕ → ℕ
stop_at h value =
    first_refusal (check (leb h.capacity h.rows) 8 ∷ check (below value (largest_view h.largest)) 9 ∷ [])

-- if there is room for a row, there is room for an entry
pub record Enterable (h : Header) (sorts : List ℕ) : Type 0 where
  pub most : h.capacity ≤ 65536
  pub entries_fit : h.entries ≤ h.rows
  pub sorts_long : 2 * h.capacity ≤ length sorts

-- the merge stops with this number
pub record Stops (h : Header) (value n : ℕ) : Type 0 where
  pub number : stop_at h value ≡ n
  pub some : 0 < n

-- the store has the entries including the next row's, and their number is n
pub record Entered (h : Header) (sorts : List ℕ) (value n : ℕ) (sorts' : List ℕ) : Type 0 where
  pub free : stop_at h value ≡ 0
  pub room : h.rows < h.capacity
  pub few : n ≤ h.entries + 1
  pub entries : entries_of n sorts' ≡ push value h.rows (entries_of h.entries sorts)
  pub cells : sorts' ≡ splice sorts 0 (entry_words (push value h.rows (entries_of h.entries sorts)))
  pub same : length sorts' ≡ length sorts

-- a stop writes nothing
abbrev pub AdmissionIs : Header → List ℕ → ℕ → List ℕ → Result ℕ Stop → Type 0
AdmissionIs h sorts value sorts' (Err stop) = Stops h value (stop_number stop) × (sorts' ≡ sorts)
AdmissionIs h sorts value sorts' (Ok n) = Entered h sorts value n sorts'

-- ---- a row is appended

-- the header with one more row, this number of dead rows, this number of sort entries, and this sort value as the largest
abbrev pub grown_to : Header → ℕ → ℕ → ℕ → Header
grown_to h dead entries value = with_counts h (h.rows + 1) dead entries (Some value)

-- one more row needs more slots in the key store
unfoldable pub outgrown : Header → Bool
outgrown h = not (eqb (size_class_for h.capacity (h.rows + 1)) (size_class_for h.capacity h.rows))

-- The key store after an append: rebuilt over all rows if the row needs more slots, otherwise as `Entry` states.
pub record KeysGrown (h h' : Header) (rows' keys : List ℕ) (Entry : Type 0) (keys' : List ℕ) : Type 0 where
  pub more : outgrown h ≡ true → KeysSound (index_shape_of h') rows' keys'
  pub stepped : outgrown h ≡ false → Entry
  pub past : SamePast (2 * h.capacity) keys keys'
  pub same : length keys' ≡ length keys

-- there is room for one more row, which is written
pub record Rebuildable (h : Header) (rows keys : List ℕ) (died : ℕ) : Type 0 where
  pub fits : Fits (full_index_shape_of h) rows keys
  pub place : h.rows < h.capacity
  pub dead_fits : h.dead + died ≤ 4294967295

pub record RebuiltGrown (h : Header) (rows keys : List ℕ) (died entries value : ℕ) (r : Header) (keys' : List ℕ) : Type 0 where
  pub answer : r ≡ grown_to h (h.dead + died) entries value
  pub rebuilt : Rebuilt (index_shape_of (grown_to h (h.dead + died) entries value)) rows keys keys'

-- stores long enough for one more row, and the cells of the row
pub record Growable (h : Header) (rows keys sorts cells : List ℕ) : Type 0 where
  pub fits : Fits (full_index_shape_of h) rows keys
  pub sort_column : h.sort < h.columns
  pub entries_fit : h.entries ≤ h.rows
  pub dead_fits : h.dead + h.capacity ≤ 4294967295 + h.rows
  pub sorts_long : 2 * h.capacity ≤ length sorts
  pub width : length cells ≡ h.columns

-- a stop leaves the stores unchanged
pub record Stayed (h : Header) (rows keys sorts cells : List ℕ) (n : ℕ) (rows' keys' sorts' : List ℕ) : Type 0 where
  pub stops : Stops h (get_or cells h.sort 0) n
  pub same_rows : rows' ≡ rows
  pub same_keys : keys' ≡ keys
  pub same_sorts : sorts' ≡ sorts

-- the row is after the others, and its number is in the key store
pub record Grew (h : Header) (rows keys sorts cells : List ℕ) (hash : ℕ) (h' : Header) (rows' keys' sorts' : List ℕ) : Type 0 where
  pub entered : Entered h sorts (get_or cells h.sort 0) h'.entries sorts'
  pub header : h' ≡ grown_to h h.dead h'.entries (get_or cells h.sort 0)
  pub rows_after : rows' ≡ splice rows (h.rows * h.columns) cells
  pub keys_after : KeysGrown h h' rows' keys ((r : Bool) × PutIs (slots (index_shape_of h)) keys hash h.rows r keys') keys'

-- "A new key is appended"
abbrev pub NewIs : Header → List ℕ → List ℕ → List ℕ → List ℕ → ℕ → List ℕ → List ℕ → List ℕ → Result Header Stop → Type 0
NewIs h rows keys sorts cells hash rows' keys' sorts' (Ok h') = Grew h rows keys sorts cells hash h' rows' keys' sorts'
NewIs h rows keys sorts cells hash rows' keys' sorts' (Err stop) = Stayed h rows keys sorts cells (stop_number stop) rows' keys' sorts'

-- the row is after the others, its number is in the old row's slot, and the old row has the dead mark
pub record Replaced (h : Header) (rows keys sorts cells : List ℕ) (hash old slot : ℕ) (h' : Header) (rows' keys' sorts' : List ℕ) : Type 0 where
  pub entered : Entered h sorts (get_or cells h.sort 0) h'.entries sorts'
  pub header : h' ≡ grown_to h (h.dead + 1) h'.entries (get_or cells h.sort 0)
  pub rows_after : rows' ≡ splice (set rows (old * h.columns) 4294967295) (h.rows * h.columns) cells
  pub keys_after : KeysGrown h h' rows' keys (keys' ≡ set keys slot (tagged hash h.rows)) keys'

-- "a row so made is appended and the old row dies"
abbrev pub ReplaceIs : Header → List ℕ → List ℕ → List ℕ → List ℕ → ℕ → ℕ → ℕ → List ℕ → List ℕ → List ℕ → Result Header Stop → Type 0
ReplaceIs h rows keys sorts cells hash old slot rows' keys' sorts' (Ok h') = Replaced h rows keys sorts cells hash old slot h' rows' keys' sorts'
ReplaceIs h rows keys sorts cells hash old slot rows' keys' sorts' (Err stop) = Stayed h rows keys sorts cells (stop_number stop) rows' keys' sorts'

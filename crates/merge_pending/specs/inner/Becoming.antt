-- Contracts of the parts of a merge: how the stores of one plain table become those of another, with every row cell and sort cell
-- given, and where the remaining records are in the pending store. Assumes nothing.
use Rattle.std.specs.Prelude.{ℕ, ◌+◌, ◌*◌, ◌≤◌, ◌<◌, ◌≡◌, Bool, true, List, [], ◌∷◌, length, take, drop, get_or, eqb, Option, None, Some}
use Rattle.lists.specs.Lists.{rows_of, filter}
use Rattle.cells.specs.Cells.{compact_hash, key_hash}
use Rattle.key_index.specs.inner.Index.{Fits}
use Rattle.plain_table.specs.Staged.{Opening, Staged, insert, remove_key, remove_row, words_of, words_all}
use Rattle.plain_table.specs.Plain.{Plain}
use Rattle.plain_table.specs.Proper.{row_of}
use Rattle.table.specs.declared.Header.{Header}
use Rattle.table.specs.Numbers.{opening_of, header}
use Rattle.table.specs.Stores.{row_store, sort_store, Holds}
use Rattle.table.specs.inner.FullIndexShape.{full_index_shape_of}
use Rattle.table.specs.Outcomes.{Stores, Represents}

-- ---- from one plain table to another

-- some rows have died, some rows were appended, and nothing else has changed
pub record Later (p p' : Plain) : Type 0 where
  pub opening : p'.opening ≡ p.opening
  pub generation : p'.generation ≡ p.generation
  pub staged : p'.staged ≡ p.staged
  pub grows : length p.rows ≤ length p'.rows
  pub cells : (i : ℕ) → i < length p.rows → (row_of p' i).cells ≡ (row_of p i).cells
  pub dies : (i : ℕ) → i < length p.rows → (row_of p' i).live ≡ true → (row_of p i).live ≡ true

-- the stores of p have become those of p'
pub record Becomes (p p' : Plain) (s s' : Stores) : Type 0 where
  pub later : Later p p'
  pub rows_after : s'.rows ≡ row_store p' (rows_of s.header.columns s.header.rows s.rows) s.rows
  pub sorts_after : s'.sorts ≡ sort_store p' s.sorts
  pub represents : Represents p' s'

-- ---- headers and lent stores

abbrev pub with_counts : Header → ℕ → ℕ → ℕ → Option ℕ → Header
with_counts h rows dead entries largest = header (opening_of h) rows dead entries h.pending h.generation largest

abbrev pub with_dead : Header → ℕ → Header
with_dead h dead = with_counts h h.rows dead h.entries h.largest

-- other counts, which still fit: for every row that has died one was appended
pub record Recounted (h h' : Header) : Type 0 where
  pub counts : h' ≡ with_counts h h'.rows h'.dead h'.entries h'.largest
  pub rows_fit : h'.rows ≤ h.capacity
  pub rows_grow : h.rows ≤ h'.rows
  pub entries_fit : h'.entries ≤ h'.rows
  pub dead_fit : h'.dead + h.rows ≤ h.dead + h'.rows

-- numbers within their bounds, and stores long enough for the inserts of a merge
pub record Ready (h : Header) (rows keys sorts pending : List ℕ) : Type 0 where
  pub fits : Fits (full_index_shape_of h) rows keys
  pub sort_column : h.sort < h.columns
  pub rule_known : h.rule ≤ 3
  pub entries_fit : h.entries ≤ h.rows
  pub dead_fits : h.dead + h.capacity ≤ 4294967295 + h.rows
  pub sorts_long : 2 * h.capacity ≤ length sorts
  pub pending_fits : h.pending ≤ length pending

-- ---- the remaining pending records

-- a record's first word
unfoldable pub kind_of : Staged → ℕ
kind_of (insert cells) = 0
kind_of (remove_key key) = 1
kind_of (remove_row row key) = 2

-- the words in use from a place on are these records
pub record Waiting (o : Opening) (pending : List ℕ) (used at : ℕ) (rest : List Staged) : Type 0 where
  pub held : Holds o (drop at pending) rest
  pub counted : at + words_all o rest ≡ used

-- a complete record of this many words is at a place
pub record RecordAt (h : Header) (pending : List ℕ) (at words : ℕ) : Type 0 where
  pub some : 0 < words
  pub inside : at + words ≤ h.pending
  pub fits : at + words ≤ 4294967295
  pub of_insert : get_or pending at 0 ≡ 0 → words ≡ h.columns + 2
  pub of_key : get_or pending at 0 ≡ 1 → words ≡ h.keys + 2
  pub of_row : get_or pending at 0 ≡ 2 → words ≡ h.keys + 3
  pub kind : get_or pending at 0 ≤ 2
  pub none : Waiting (opening_of h) pending h.pending at [] → ⊥
  pub next : (r : Staged) (rest : List Staged) → Waiting (opening_of h) pending h.pending at (r ∷ rest) → words ≡ words_of (opening_of h) r

-- the number of words of the record at a place, if a complete record starts there: a safe number to advance by, on any store
abbrev pub RecordLength : Header → List ℕ → ℕ → Option ℕ → Type 0
RecordLength h pending at None = (r : Staged) (rest : List Staged) → Waiting (opening_of h) pending h.pending at (r ∷ rest) → ⊥
RecordLength h pending at (Some words) = RecordAt h pending at words

-- ---- records that a pass skips

-- whether a record is of a kind
abbrev pub of_kind : ℕ → Staged → Bool
of_kind kind r = eqb (kind_of r) kind

-- of these records, those from a place on remain, and no wanted record was skipped
pub record Remaining (h : Header) (pending : List ℕ) (wanted at : ℕ) (records : List Staged) : Type 0 where
  pub left : List Staged
  pub same : filter (of_kind wanted) records ≡ filter (of_kind wanted) left
  pub waiting : Waiting (opening_of h) pending h.pending at left

-- from one place to another only records of one kind were skipped, each of `words` words
pub record RunSkipped (h : Header) (pending : List ℕ) (from kind words at : ℕ) : Type 0 where
  pub on : from ≤ at
  pub inside : at ≤ h.pending
  pub rest : ((r : Staged) → kind_of r ≡ kind → words_of (opening_of h) r ≡ words) → (wanted : ℕ) → (kind ≡ wanted → ⊥)
      → (records : List Staged) → Waiting (opening_of h) pending h.pending from records → Remaining h pending wanted at records

-- a complete record is at a place
pub record CanSkip (h : Header) (pending : List ℕ) (at words : ℕ) : Type 0 where
  pub here : RecordAt h pending at words
  pub fits : h.pending ≤ length pending

-- the record is skipped, together with any unwanted records that follow it
pub record NextRecord (h : Header) (pending : List ℕ) (at words wanted next : ℕ) : Type 0 where
  pub on : at + words ≤ next
  pub inside : next ≤ h.pending
  pub rest : (first : Staged) (rest : List Staged) → Waiting (opening_of h) pending h.pending at (first ∷ rest) → Remaining h pending wanted next rest

-- the compact hash of a record's key
unfoldable pub hash_of : ℕ → Staged → ℕ
hash_of keys (insert cells) = compact_hash (key_hash (take keys cells))
hash_of keys (remove_key key) = compact_hash (key_hash key)
hash_of keys (remove_row row key) = compact_hash (key_hash key)

-- How the records of rows in a bitmap are written: those of one row, of the rows of a word, of all rows. Assumes nothing.
use Rattle.std.specs.Prelude.{ℕ, ◌+◌, ◌*◌, ◌≤◌, ◌<◌, ◌≡◌, Bool, true, false, List, map, length, ltb}
use Rattle.lists.specs.Lists.{splice, filter, row_at, flatten, iota}
use Rattle.row_buffer.specs.Ranks.{bitmap_word, count_to}
use Rattle.bitmap.specs.inner.Bitmaps.{Bitmap, Summarised}
use Rattle.plain_table.specs.Plain.{Numbered}
use Rattle.plain_table.specs.Refreshing.{refreshed}
use Rattle.table.specs.declared.Header.{Header}
use Rattle.table.specs.Numbers.{opening_of}
use Rattle.table.specs.Refusing.{outside}
use Rattle.table.specs.Stores.{record_words}
use Rattle.table.specs.Outcomes.{with_pending}
use Rattle.refresh_spec.specs.declared.Refreshed.{Refreshed}

abbrev pub numbered : Header → List ℕ → ℕ → Numbered
numbered h rows i = record { number = i; cells = row_at h.columns i rows }

-- the rows in the bitmap among the first n rows
unfoldable pub marked_rows : Header → List ℕ → (ℕ → Bool) → ℕ → List Numbered
marked_rows h rows test n = map (numbered h rows) (filter test (iota 0 n))

-- the words of the two records of each row
unfoldable pub rows_words : Header → ℕ → List Numbered → List ℕ
rows_words h stamp rows = flatten (map (record_words h.keys) (refreshed (opening_of h) stamp rows))

-- the number of words for one row
abbrev pub row_words : Header → ℕ
row_words h = h.keys + 3 + (h.columns + 2)

-- a row is within the store
pub record RowInStore (h : Header) (rows : List ℕ) (row : ℕ) : Type 0 where
  pub inside : outside h ≡ false
  pub rows_long : h.capacity * h.columns ≤ length rows
  pub row_below : row < h.rows

-- there is room for the records of all rows in the bitmap
pub record RecordsFit (h : Header) (rows pending : List ℕ) (test : ℕ → Bool) : Type 0 where
  pub inside : outside h ≡ false
  pub rows_long : h.capacity * h.columns ≤ length rows
  pub rows_only : (i : ℕ) → test i ≡ true → i < h.rows
  pub free : h.pending + count_to test h.rows * row_words h ≤ length pending
  pub counted : h.pending + count_to test h.rows * row_words h ≤ 4294967295

-- the records of the rows in the bitmap among the first n rows are written
pub record Written (h : Header) (rows pending : List ℕ) (test : ℕ → Bool) (stamp : ℕ) (pending' : List ℕ) (used n : ℕ) : Type 0 where
  pub words_used : used ≡ h.pending + count_to test n * row_words h
  pub words : pending' ≡ splice pending h.pending (rows_words h stamp (marked_rows h rows test n))

-- the same up to a row, and a word is the bitmap of the 64 rows from there on
pub record Block (h : Header) (rows pending : List ℕ) (used first word stamp : ℕ) : Type 0 where
  pub pending₀ : List ℕ
  pub test : ℕ → Bool
  pub room : RecordsFit h rows pending₀ test
  pub marked : word ≡ bitmap_word (λ bit. test (first + bit)) 64
  pub written : Written h rows pending₀ test stamp pending used first

-- the records of these 64 rows are written too
pub record BlockWritten (h : Header) (rows pending : List ℕ) (used first word stamp : ℕ) (r : ℕ) (pending' : List ℕ) : Type 0 where
  pub on : (b : Block h rows pending used first word stamp) → Written h rows b.pending₀ b.test stamp pending' r (first + 64)

-- the same up to a group of 4,096 rows, which are in the words after that
pub record Group (h : Header) (rows pending words : List ℕ) (used group stamp : ℕ) : Type 0 where
  pub pending₀ : List ℕ
  pub test : ℕ → Bool
  pub bitmap : Bitmap words test
  pub summarised : Summarised words
  pub room : RecordsFit h rows pending₀ test
  pub below : group < 16
  pub written : Written h rows pending₀ test stamp pending used (group * 4096)

-- the records of the rows of the group are written too
pub record GroupWritten (h : Header) (rows pending words : List ℕ) (used group stamp : ℕ) (r : ℕ) (pending' : List ℕ) : Type 0 where
  pub on : (g : Group h rows pending words used group stamp) → Written h rows g.pending₀ g.test stamp pending' r (group * 4096 + 4096)

-- a bitmap of so many rows, and room for their records
pub record Stageable (h : Header) (rows pending words : List ℕ) (count : ℕ) : Type 0 where
  pub test : ℕ → Bool
  pub bitmap : Bitmap words test
  pub summarised : Summarised words
  pub counted : count_to test h.rows ≡ count
  pub room : RecordsFit h rows pending test

-- the records of all rows are written
pub record AllWritten (h : Header) (rows pending words : List ℕ) (count stamp r : ℕ) (pending' : List ℕ) : Type 0 where
  pub on : (s : Stageable h rows pending words count) → Written h rows pending s.test stamp pending' r h.rows

-- the same, and the answer of a refresh that found so many rows
pub record RowsStaged (h : Header) (rows pending words : List ℕ) (count stamp : ℕ) (answer : Refreshed) (pending' : List ℕ) : Type 0 where
  pub used : ℕ
  pub written : AllWritten h rows pending words count stamp used pending'
  pub answers : answer ≡ record { header = with_pending h used; staged = ltb 0 count }

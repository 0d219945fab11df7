-- The contents of a table's stores: how a header and stores show a plain table, and the contents of every cell of the row and
-- sort-entry stores after an operation that takes one plain table to another. Assumes nothing.
use Rattle.std.specs.Prelude.{ℕ, ◌<◌, ◌≡◌, true, cond, not, List, [], ◌∷◌, map, length, take, get_or, set}
use Rattle.lists.specs.Lists.{splice, all, row_at, rows_of, flatten}
use Rattle.cells.specs.Cells.{compact_hash, key_hash}
use Rattle.constraints.specs.Constraints.{is_live}
use Rattle.sort_entries.specs.Entries.{Entry, entries_of, entry_words, rebuilt}
use Rattle.plain_table.specs.Staged.{Opening, Staged, insert, remove_key, remove_row, words_all}
use Rattle.plain_table.specs.Refusing.{wrong_width}
use Rattle.plain_table.specs.Plain.{Row, Plain, dead}
use Rattle.plain_table.specs.Proper.{row_of}
use Rattle.table.specs.declared.Header.{Header}
use Rattle.table.specs.Numbers.{largest_of, header}

-- the sort entries of a plain table, from each row's sort cell, that of dead rows too
unfoldable pub entries : Plain → List Entry
entries p = rebuilt (map (λ row. get_or row.cells p.opening.sort 0) p.rows)

-- the header of a plain table
abbrev pub header_of : Plain → Header
header_of p =
    header p.opening (length p.rows) (dead p) (length (entries p)) (words_all p.opening p.staged) p.generation (largest_of p.largest)

-- the cells of a row after it dies: the dead mark, and its other cells as before
abbrev pub marked : List ℕ → List ℕ
marked cells = set cells 0 4294967295

-- The rows as stored, given those that were stored before. A live row has its cells. A dead row has the dead mark, followed by the
-- cells stored there before or, if it is new, by the cells that were appended. Example: the first column is both the key and the
-- sort column. 7 1 160 and the dead row 4294967295 2 148 are stored. A merge under rule 1 removes key 7 and inserts 8 1 163 and
-- then 8 1 170. Afterwards 4294967295 1 160 (dies now: its other cells stay), 4294967295 2 148 (dead before: unchanged), 4294967295
-- 1 163 (appended and dead in one merge) and 8 1 170 are stored.
unfoldable pub stored : List Row → List (List ℕ) → List (List ℕ)
stored [] before = []
stored (row ∷ rows) [] = cond row.live row.cells (marked row.cells) ∷ stored rows []
stored (row ∷ rows) (old ∷ before) = cond row.live row.cells (marked old) ∷ stored rows before

-- the row store that shows p, given its contents before: cells past the rows of p are unchanged
unfoldable pub row_store : Plain → List (List ℕ) → List ℕ → List ℕ
row_store p before store = splice store 0 (flatten (stored p.rows before))

-- the same for the sort-entry store
unfoldable pub sort_store : Plain → List ℕ → List ℕ
sort_store p store = splice store 0 (entry_words (entries p))

-- The words of a staged record in the pending store: its kind, the compact hash of its key, its row number if it has one, its
-- cells. The layout is our choice; "columns plus 2, keys plus 2, keys plus 3" is the paper's.
unfoldable pub record_words : ℕ → Staged → List ℕ
record_words keys (insert cells) = 0 ∷ compact_hash (key_hash (take keys cells)) ∷ cells
record_words keys (remove_key key) = 1 ∷ compact_hash (key_hash key) ∷ key
record_words keys (remove_row row key) = 2 ∷ compact_hash (key_hash key) ∷ row ∷ key

-- "it holds the staged records whole and in order"
pub record Holds (o : Opening) (pending : List ℕ) (staged : List Staged) : Type 0 where
  pub whole : all (λ r. not (wrong_width o r)) staged ≡ true
  pub in_order : take (words_all o staged) pending ≡ flatten (map (record_words o.keys) staged)

-- the rows of a table, read from its header and row store
unfoldable pub rows_in : Header → List ℕ → List Row
rows_in h store = map (λ cells. record { live = is_live cells; cells = cells }) (rows_of h.columns h.rows store)

-- a stored row shows a plain one: it is live exactly if the plain one is, and then has the same cells
pub record RowShown (row : Row) (cells : List ℕ) : Type 0 where
  pub live : row.live ≡ is_live cells
  pub same : row.live ≡ true → row.cells ≡ cells

-- the stores show the plain table p
pub record Shows (p : Plain) (h : Header) (rows sorts pending : List ℕ) : Type 0 where
  pub header : h ≡ header_of p
  pub rows_shown : (i : ℕ) → i < h.rows → RowShown (row_of p i) (row_at h.columns i rows)
  pub entries_shown : entries_of h.entries sorts ≡ entries p
  pub pending_held : Holds p.opening pending p.staged

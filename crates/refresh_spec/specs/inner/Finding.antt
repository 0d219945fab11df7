-- Contracts of the parts of a refresh: finding the rows that mention a value, by the index store and among the rows that it has not
-- seen, and updating the index store. Assumes nothing.
use Rattle.std.specs.Prelude.{ℕ, ◌+◌, ◌*◌, ◌≤◌, ◌<◌, ◌≡◌, Bool, true, false, ◌&&◌, List, length, take, drop, get_or, leb, ltb, eqb}
use Rattle.lists.specs.Lists.{all, any, same, row_at}
use Rattle.constraints.specs.Constraints.{is_live}
use Rattle.plain_table.specs.Refreshing.{mentions}
use Rattle.table.specs.declared.Header.{Header}
use Rattle.table.specs.Refusing.{outside}
use Rattle.bitmap.specs.inner.Bitmaps.{Marked}
use Rattle.refresh_spec.specs.Index.{is_new, generation_seen, rows_seen, columns_named, leads_to, IndexOf, Current}

-- one of these entries leads to row i
unfoldable pub leads : Header → List ℕ → List ℕ → ℕ → List ℕ → ℕ → Bool
leads h rows columns value entries i = any (λ entry. leads_to h rows columns value entry i) entries

-- row i is live and mentions a value
unfoldable pub mentions_at : Header → List ℕ → List ℕ → List ℕ → ℕ → Bool
mentions_at h rows columns values i =
    ltb i h.rows && is_live (row_at h.columns i rows) && mentions columns values (row_at h.columns i rows)

-- the same for the rows below `seen`, and for the rows from `seen` on
unfoldable pub mentions_below : Header → List ℕ → List ℕ → List ℕ → ℕ → ℕ → Bool
mentions_below h rows columns values seen i = ltb i seen && mentions_at h rows columns values i

unfoldable pub mentions_from : Header → List ℕ → List ℕ → List ℕ → ℕ → ℕ → Bool
mentions_from h rows columns values seen i = leb seen i && mentions_at h rows columns values i

-- what holds if no test before 7 refuses the refresh
pub record Lendable (h : Header) (rows columns index : List ℕ) : Type 0 where
  pub inside : outside h ≡ false
  pub rows_long : h.capacity * h.columns ≤ length rows
  pub columns_few : length columns ≤ 8
  pub columns_there : all (λ column. ltb column h.columns) columns ≡ true
  pub index_long : 16 + 3 * (h.capacity * length columns) ≤ length index

-- An index store that the next refresh by these columns continues with: it has this generation and these columns, no more rows than
-- the table, enough buckets for all rows, and no more buckets than there is space for.
unfoldable pub usable : Header → List ℕ → List ℕ → Bool
usable h columns index =
    eqb (get_or index 0 0) 1
    && eqb (generation_seen index) h.generation
    && eqb (columns_named index) (length columns)
    && same (take (length columns) (drop 4 index)) columns
    && leb (rows_seen index) h.rows
    && leb (h.rows * length columns) (get_or index 12 0)
    && leb (get_or index 12 0) (2 * (h.capacity * length columns))

-- The contract of looking up the values in such an index store: it marks only live rows seen that mention a value, and all of those
-- if the store is an index of the rows seen.
abbrev pub ListedMarked : Header → List ℕ → List ℕ → List ℕ → List ℕ → List ℕ → List ℕ → ℕ → Type 0
ListedMarked h rows index columns values words words' more =
    (needed : ℕ → Bool) → ((i : ℕ) → needed i ≡ true → IndexOf h rows index × (mentions_below h rows columns values (rows_seen index) i ≡ true))
    → Marked (mentions_below h rows columns values (rows_seen index)) needed words words' more

-- The index store after its update: whatever it held, it is not new, and words past those needed are unchanged. If it was an index
-- of the rows that it had seen, or if it is started afresh, it is an index of all rows.
pub record CaughtUp (h : Header) (rows columns index index' : List ℕ) : Type 0 where
  pub length_same : length index' ≡ length index
  pub written : is_new index' ≡ false
  pub current : (usable h columns index ≡ true → IndexOf h rows index) → Current h rows columns index'
  pub past : drop (16 + 3 * (h.capacity * length columns)) index' ≡ drop (16 + 3 * (h.capacity * length columns)) index
  -- "catches up from the version last seen": in a usable store the entries of the rows seen and the number of buckets are
  -- unchanged. Any other store is started afresh, with twice as many buckets as there are entries.
  pub entries_kept : usable h columns index ≡ true → (entry : ℕ) → entry < rows_seen index * length columns → get_or index' (16 + entry) 0 ≡ get_or index (16 + entry) 0
  pub buckets_kept : usable h columns index ≡ true → get_or index' 12 0 ≡ get_or index 12 0
  pub buckets_afresh : usable h columns index ≡ false → get_or index' 12 0 ≡ 2 * (h.rows * length columns)

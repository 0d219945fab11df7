-- Contracts of the private functions of the index store: the value of an entry, an entry pushed, and a store filled row by row.
-- Assumes nothing.
use Rattle.std.specs.Prelude.{ℕ, ◌+◌, ◌*◌, ◌/◌, ◌%◌, ◌≤◌, ◌<◌, ◌≡◌, Bool, true, false, List, [], ◌∷◌, length, drop, get_or, set, ltb}
use Rattle.lists.specs.Lists.{splice, all, elem, row_at}
use Rattle.constraints.specs.Constraints.{is_live}
use Rattle.table.specs.declared.Header.{Header}
use Rattle.table.specs.Refusing.{outside}
use Rattle.refresh_spec.specs.Index.{is_new, rows_seen, bucket_of, chain, Current}
use Rattle.refresh_spec.specs.inner.Finding.{Lendable, usable}

-- rows and named columns that a refresh may read
pub record Readable (h : Header) (rows columns : List ℕ) : Type 0 where
  pub inside : outside h ≡ false
  pub rows_long : h.capacity * h.columns ≤ length rows
  pub columns_few : length columns ≤ 8
  pub columns_there : all (λ column. ltb column h.columns) columns ≡ true

-- the cell of a row in the column that is named at a place
unfoldable pub cell_named : Header → List ℕ → List ℕ → ℕ → ℕ → ℕ
cell_named h rows columns row place = get_or (row_at h.columns row rows) (get_or columns place 0) 0

-- an entry's row, whether it is live, and its cell in the entry's column
abbrev pub entry_row : List ℕ → ℕ → ℕ
entry_row columns entry = entry / length columns

unfoldable pub entry_live : Header → List ℕ → List ℕ → ℕ → Bool
entry_live h rows columns entry = is_live (row_at h.columns (entry_row columns entry) rows)

unfoldable pub entry_value : Header → List ℕ → List ℕ → ℕ → ℕ
entry_value h rows columns entry = cell_named h rows columns (entry_row columns entry) (entry % length columns)

-- the place where the links of the buckets start
abbrev pub heads_at : Header → List ℕ → ℕ
heads_at h columns = 16 + h.capacity * length columns

-- an entry becomes the last of the bucket whose link is at this place
unfoldable pub pushed : List ℕ → ℕ → ℕ → List ℕ
pushed index head entry = set (set index (16 + entry) (get_or index head 0)) head (entry + 1)

-- each entry below n whose row is live is listed under its value
pub record Listed (h : Header) (rows columns : List ℕ) (buckets n : ℕ) (index : List ℕ) : Type 0 where
  pub each : (entry : ℕ) → entry < n → entry_live h rows columns entry ≡ true
      → elem entry (chain index n (get_or index (heads_at h columns + bucket_of buckets (entry_value h rows columns entry)) 0)) ≡ true

-- a store with room for this number of buckets, which are enough
pub record Fillable (h : Header) (rows columns : List ℕ) (buckets : ℕ) (index : List ℕ) : Type 0 where
  pub lendable : Lendable h rows columns index
  pub enough : h.rows * length columns ≤ buckets
  pub room : buckets ≤ 2 * (h.capacity * length columns)

-- entries n to n' are pushed: a store that listed those below n lists those below n', and the words of entries below n are
-- unchanged
pub record Pushed (h : Header) (rows columns : List ℕ) (buckets n : ℕ) (index : List ℕ) (n' : ℕ) (index' : List ℕ) : Type 0 where
  pub up : n ≤ n'
  pub lists : Listed h rows columns buckets n index → Listed h rows columns buckets n' index'
  pub same_below : (entry : ℕ) → entry < n → get_or index' (16 + entry) 0 ≡ get_or index (16 + entry) 0
  pub past : drop (16 + 3 * (h.capacity * length columns)) index' ≡ drop (16 + 3 * (h.capacity * length columns)) index

-- the words before the entries
unfoldable pub fronted : Header → List ℕ → ℕ → List ℕ → List ℕ
fronted h columns buckets index =
    set (splice (splice index 0 (1 ∷ h.generation ∷ h.rows ∷ length columns ∷ [])) 4 columns) 12 buckets

-- a store that has seen all rows, and that the next refresh continues with
pub record UpToDate (h : Header) (columns index : List ℕ) : Type 0 where
  pub usable_now : usable h columns index ≡ true
  pub seen_all : rows_seen index ≡ h.rows

-- the rows from one on are pushed, and the words before the entries are written
pub record Filled (h : Header) (rows columns : List ℕ) (buckets from : ℕ) (index index' : List ℕ) : Type 0 where
  pub written : is_new index' ≡ false
  pub up_to_date : UpToDate h columns index'
  pub current : Listed h rows columns buckets (from * length columns) index → Current h rows columns index'
  pub same_below : (entry : ℕ) → entry < from * length columns → get_or index' (16 + entry) 0 ≡ get_or index (16 + entry) 0
  pub buckets_are : get_or index' 12 0 ≡ buckets
  pub past : drop (16 + 3 * (h.capacity * length columns)) index' ≡ drop (16 + 3 * (h.capacity * length columns)) index

-- this number of buckets is empty
pub record Emptied (index : List ℕ) (heads buckets : ℕ) (index' : List ℕ) : Type 0 where
  pub empty : (bucket : ℕ) → bucket < buckets → get_or index' (heads + bucket) 0 ≡ 0
  pub past : (n : ℕ) → heads + buckets ≤ n → drop n index' ≡ drop n index

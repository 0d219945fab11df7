-- The index store of a refresh (document 02, change 2): "An index from value to rising row numbers stands in a lent u32 store".
-- "Its inside is the program's choice"; ours is this:
--
--   word 0          0 in a new store, not 0 in a written one; "its first word is 0, which marks a new store; no written one has 0 there"
--   words 1 and 2   the version last seen: generation and row count
--   words 3 to 11   how many columns are named, and these
--   word 12         how many buckets there are, at most 2 for each row of the capacity and named column
--   words 13 to 15  unused
--   words 16 on     for each row of the capacity and each named column, row by row, an entry: the link to the entry before it in
--                   its bucket; then for each bucket the link to its last entry. A link is one more than an entry's number, or 0
--
-- An entry is in the bucket of the cell that its row had in its column when it was entered. Entries of other values and of rows that
-- died may be in the same bucket. A lookup keeps those whose row is live and holds the value, and returns their rows in rising order
-- (`looked_up`). Assumes nothing.
use Rattle.std.specs.Prelude.{ℕ, zero, suc, ◌+◌, ◌*◌, ◌/◌, ◌%◌, ◌^◌, ◌≤◌, ◌<◌, ◌≡◌, Bool, true, false, cond, not, ◌&&◌, ◌||◌, List, [], ◌∷◌, length, take, drop, get_or, eqb}
use Rattle.lists.specs.Lists.{filter, any, elem, same, row_at, iota}
use Rattle.constraints.specs.Constraints.{is_live}
use Rattle.plain_table.specs.Refreshing.{index_short}
use Rattle.table.specs.declared.Header.{Header}
use Rattle.table.specs.Numbers.{opening_of}

unfoldable pub is_new : List ℕ → Bool
is_new index = eqb (get_or index 0 0) 0

-- the version last seen
unfoldable pub generation_seen : List ℕ → ℕ
generation_seen index = get_or index 1 0

unfoldable pub rows_seen : List ℕ → ℕ
rows_seen index = get_or index 2 0

-- the named columns, "a repeat counts again"
unfoldable pub columns_named : List ℕ → ℕ
columns_named index = get_or index 3 0

unfoldable pub named_in : List ℕ → List ℕ
named_in index = take (columns_named index) (drop 4 index)

-- the bucket of a value among this many buckets
unfoldable pub bucket_of : ℕ → ℕ → ℕ
bucket_of buckets value = (((value * 2654435769) % 2 ^ 32) * buckets) / 2 ^ 32

-- the entries below n on the chain that starts at a link, from the highest down; the chain ends at a link that is 0 or does not lead
-- to a lower entry
unfoldable pub chain : List ℕ → ℕ → ℕ → List ℕ
chain index zero link = []
chain index (suc n) link = cond (eqb link (suc n)) (n ∷ chain index n (get_or index (16 + n) 0)) (chain index n link)

-- the entries in the bucket of a value, in a table of this capacity
unfoldable pub entries_under : ℕ → List ℕ → ℕ → List ℕ
entries_under capacity index value =
    chain index (rows_seen index * columns_named index) (get_or index (16 + capacity * columns_named index + bucket_of (get_or index 12 0) value) 0)

-- An entry leads to row i: row i is the entry's row, is live, and holds the value in the entry's column. `columns` are the named
-- columns.
unfoldable pub leads_to : Header → List ℕ → List ℕ → ℕ → ℕ → ℕ → Bool
leads_to h rows columns value entry i =
    let cells = row_at h.columns (entry / length columns) rows in
    is_live cells && eqb (get_or cells (get_or columns (entry % length columns) 0) 0) value && eqb i (entry / length columns)

-- "An index from value to rising row numbers": a lookup returns the rows seen that an entry in the value's bucket leads to
unfoldable pub looked_up : Header → List ℕ → List ℕ → ℕ → List ℕ
looked_up h rows index value =
    filter (λ i. any (λ entry. leads_to h rows (named_in index) value entry i) (entries_under h.capacity index value)) (iota 0 (rows_seen index))

-- "such an index of the version last seen": each live row of those seen has an entry under its value in each named column
pub record IndexOf (h : Header) (rows index : List ℕ) : Type 0 where
  pub seen : rows_seen index ≤ h.rows
  pub buckets_few : get_or index 12 0 ≤ 2 * (h.capacity * columns_named index)
  pub listed : (row place : ℕ) → row < rows_seen index → is_live (row_at h.columns row rows) ≡ true → place < columns_named index
      → elem (row * columns_named index + place) (entries_under h.capacity index (get_or (row_at h.columns row rows) (get_or index (4 + place) 0) 0)) ≡ true

-- "starts afresh if the generation or the columns differ, or if its first word is 0"
unfoldable pub starts_afresh : Header → List ℕ → List ℕ → Bool
starts_afresh h columns index = is_new index || not (eqb (generation_seen index) h.generation) || not (same (named_in index) columns)

-- An index store that is sound for a refresh by these columns: if the refresh continues with it, it is an index of the version last
-- seen. Nothing is required if the refresh starts afresh, or if a lent store is too short for it.
abbrev pub IndexSound : Header → List ℕ → List ℕ → List ℕ → Type 0
IndexSound h rows columns index =
    h.capacity * h.columns ≤ length rows → index_short (opening_of h) columns (length index) ≡ false → starts_afresh h columns index ≡ false → IndexOf h rows index

-- an index of the current version, by these columns
pub record Current (h : Header) (rows columns index : List ℕ) : Type 0 where
  pub written : is_new index ≡ false
  pub generation : generation_seen index ≡ h.generation
  pub seen_all : rows_seen index ≡ h.rows
  pub columns_are : named_in index ≡ columns
  pub index_of : IndexOf h rows index

-- Sort entries (document 01, "Sort entries"): the entries of rows, and the fast range. Assumes nothing.
use Rattle.std.specs.Prelude.{ℕ, zero, suc, Bool, cond, ◌&&◌, List, [], ◌∷◌, map, drop, get_or, leb, ltb, eqb}
use Rattle.std.proofs.Math.Option.{Option, none, some}
use Rattle.lists.specs.Lists.{filter, all, rising}
use Rattle.offsets.specs.Subsets.{Subset, range}

-- "Pairs of value and first row"
pub record Entry : Type 0 where
  pub value : ℕ
  pub row : ℕ

abbrev pub entry : ℕ → ℕ → Entry
entry value row = record { value = value; row = row }

-- the first n pairs of a store, and the words of a list of pairs
unfoldable pub entries_of : ℕ → List ℕ → List Entry
entries_of zero store = []
entries_of (suc n) store = entry (get_or store 0 0) (get_or store 1 0) ∷ entries_of n (drop 2 store)

unfoldable pub entry_words : List Entry → List ℕ
entry_words [] = []
entry_words (e ∷ es) = e.value ∷ e.row ∷ entry_words es

-- The entries of rows with these sort values, numbered from `row`: a row has one if its value is above every earlier one. `largest`
-- is the largest earlier value, if there is one.
unfoldable pub rebuilt_from : ℕ → Option ℕ → List ℕ → List Entry
rebuilt_from row largest [] = []
rebuilt_from row none (value ∷ values) = entry value row ∷ rebuilt_from (suc row) (some value) values
rebuilt_from row (some largest) (value ∷ values) =
    cond (ltb largest value)
    (entry value row ∷ rebuilt_from (suc row) (some value) values)
    (rebuilt_from (suc row) (some largest) values)

-- the same for rows numbered from 0. After a compaction all rows are live, so these are then the entries "rebuilt from live rows"
unfoldable pub rebuilt : List ℕ → List Entry
rebuilt values = rebuilt_from 0 none values

-- the row of the first entry, or the row count if there is none
unfoldable pub first_row : List Entry → ℕ → ℕ
first_row [] rows = rows
first_row (e ∷ es) rows = e.row

-- the entries from the first one of value v on; none if there is no such entry
unfoldable pub entries_from : ℕ → List Entry → List Entry
entries_from v [] = []
entries_from v (e ∷ es) = cond (eqb e.value v) (e ∷ es) (entries_from v es)

-- by the kind of a condition, 1 to 5: "equal .. less .. greater .. at most .. at least"
unfoldable pub by_kind : ℕ → Subset → Subset → Subset → Subset → Subset → Subset
by_kind kind equal less greater most least =
    cond (eqb kind 1) equal (cond (eqb kind 2) less (cond (eqb kind 3) greater (cond (eqb kind 4) most least)))

-- The rows of a condition of kind 1 to 5 on the sort column. "With f the row of an entry of value v, b the next entry's row or the
-- row count, and g the row of the first entry above v or the row count: equal f..b, less 0..f, greater b..count, at most 0..b, at
-- least f..count. Without such an entry: 0..0, 0..g, g..count, 0..g, g..count."
unfoldable pub fast_range : ℕ → ℕ → List Entry → ℕ → Subset
fast_range kind v es count =
    elim (entries_from v es) [
      | e ∷ next ↦
          let f = e.row in
          let b = first_row next count in
          by_kind kind (range f b) (range 0 f) (range b count) (range 0 b) (range f count)
      | [] ↦
          let g = first_row (filter (λ e. ltb v e.value) es) count in
          by_kind kind (range 0 0) (range 0 g) (range g count) (range 0 g) (range g count)
    ]

-- the value of the last entry at or below a row
unfoldable pub value_at : ℕ → List Entry → ℕ
value_at row [] = 0
value_at row (e ∷ []) = e.value
value_at row (e ∷ (f ∷ es)) = cond (leb f.row row) (value_at row (f ∷ es)) e.value

-- "sort entries rise strictly, lie below the row count and begin at row 0 where there is a row": if there are no entries,
-- `first_row` is the row count, which must then be 0
unfoldable pub entries_sound : List Entry → ℕ → Bool
entries_sound es rows =
    rising (map (λ e. e.value) es)
    && rising (map (λ e. e.row) es)
    && all (λ e. ltb e.row rows) es
    && eqb (first_row es rows) 0

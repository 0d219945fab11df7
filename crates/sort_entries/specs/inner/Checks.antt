-- Contracts of the checks of entries and of sort cells. Assumes nothing.
use Rattle.std.specs.Prelude.{ℕ, ◌+◌, ◌*◌, ◌≤◌, ◌<◌, ◌≡◌, Bool, true, false, not, ◌||◌, List, [], ◌∷◌, length, drop, get_or, eqb}
use Rattle.std.proofs.Common.{true≢false}
use Rattle.std.proofs.lemmas.Bool.{false≢true}
use Rattle.lists.specs.Lists.{all, iota, row_at}
use Rattle.constraints.specs.Constraints.{is_live}
use Rattle.sort_entries.specs.Entries.{Entry, entries_of, value_at}

-- an answer decides a claim
pub record Decides (claim : Type 0) (r : Bool) : Type 0 where
  pub yes : r ≡ true → claim
  pub no : r ≡ false → claim → ⊥

pub decides_yes : {claim : Type 0} → claim → Decides claim true
decides_yes p = record { yes = λ e. p; no = λ e q. absurd (true≢false e) }

pub decides_no : {claim : Type 0} → (claim → ⊥) → Decides claim false
decides_no f = record { yes = λ e. absurd (false≢true e); no = λ e. f }

-- the entry at position i is below the row count, and above the one before it
pub record Follows (store : List ℕ) (rows i : ℕ) : Type 0 where
  pub inside : get_or store (2 * i + 1) 0 < rows
  pub value : (k : ℕ) → k + 1 ≡ i → get_or store (2 * k) 0 < get_or store (2 * i) 0
  pub row : (k : ℕ) → k + 1 ≡ i → get_or store (2 * k + 1) 0 < get_or store (2 * i + 1) 0

-- the first entry's value, 0 if there is none
unfoldable pub head_value : List Entry → ℕ
head_value [] = 0
head_value (e ∷ es) = e.value

-- the entries before position r are not needed for this row and later ones, and the entry at r applies to this row
pub record Advanced (store : List ℕ) (n from row r : ℕ) : Type 0 where
  pub inside : r ≤ n
  pub later : (j : ℕ) → row ≤ j → value_at j (drop from (entries_of n store)) ≡ value_at j (drop r (entries_of n store))
  pub here : value_at row (drop r (entries_of n store)) ≡ head_value (drop r (entries_of n store))

-- the row store is long enough for its rows, and the sort column is a column
pub record Cells (store : List ℕ) (columns sort rows : ℕ) : Type 0 where
  pub narrow : columns ≤ 8
  pub column : sort < columns
  pub few : rows ≤ 65536
  pub words : rows * columns ≤ length store

-- a row is dead, or its sort cell is this value
unfoldable pub cell_sound : List ℕ → ℕ → ℕ → ℕ → ℕ → Bool
cell_sound store columns sort row value =
    not (is_live (row_at columns row store)) || eqb (get_or (row_at columns row store) sort 0) value

-- "each live sort cell is the value of the last entry at or below its row"
unfoldable pub cells_sound : List ℕ → ℕ → ℕ → ℕ → List Entry → Bool
cells_sound store columns sort rows es =
    all (λ row. cell_sound store columns sort row (value_at row es)) (iota 0 rows)

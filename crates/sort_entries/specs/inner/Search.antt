-- Contracts of the search for a value and of the fast range. Assumes nothing.
use Rattle.std.specs.Prelude.{ℕ, ◌*◌, ◌≤◌, ◌≡◌, true, List, length, Result, Ok, Err}
use Rattle.offsets.specs.Subsets.{Subset, range}
use Rattle.sort_entries.specs.declared.Range.{Range}
use Rattle.sort_entries.specs.Entries.{fast_range, entries_of, entries_sound}
use Rattle.sort_entries.specs.Laws.Positions.{Position, found, absent, position}

-- the store is long enough for its entries
pub record EntriesFit (store : List ℕ) (n : ℕ) : Type 0 where
  pub few : n ≤ 65536
  pub words : 2 * n ≤ length store

-- the position that a search result encodes
abbrev pub position_found : Result Range ℕ → Position
position_found (Ok rows) = found rows.start rows.end
position_found (Err above) = absent above

pub record SearchResultIs (store : List ℕ) (n rows v : ℕ) (r : Result Range ℕ) : Type 0 where
  pub is : entries_sound (entries_of n store) rows ≡ true → position_found r ≡ position v (entries_of n store) rows

-- the subset that a range encodes
abbrev pub range_of : Range → Subset
range_of r = range r.start r.end

pub record Ranged (store : List ℕ) (n rows kind v : ℕ) (r : Range) : Type 0 where
  pub is : entries_sound (entries_of n store) rows ≡ true → range_of r ≡ fast_range kind v (entries_of n store) rows

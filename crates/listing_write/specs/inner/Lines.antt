-- A listing line by line, as the code writes it. Assumes nothing.
use Rattle.std.specs.Prelude.{ℕ, zero, suc, ◌*◌, ◌≤◌, Bool, true, false, cond, List, [], ◌∷◌, ◌++◌, map, length, take, drop}
use Rattle.constraints.specs.Constraints.{is_live}
use Rattle.plain_table.specs.Staged.{Opening}
use Rattle.plain_table.specs.Plain.{Row, Numbered, live_from}
use Rattle.table.specs.declared.Header.{Header}
use Rattle.table.specs.Numbers.{opening_of}
use Rattle.levels_text.specs.Written.{text_line}
use Rattle.listing_spec.specs.Listings.{Listing, head_letter}

-- the numbers of the head line
unfoldable pub head_numbers : Bool → Opening → ℕ → ℕ → List ℕ
head_numbers true o generation count = o.columns ∷ o.keys ∷ o.sort ∷ o.rule ∷ generation ∷ count ∷ []
head_numbers false o generation count = o.columns ∷ o.keys ∷ o.sort ∷ o.rule ∷ generation ∷ []

-- the numbers of a D line
unfoldable pub row_fields : Bool → Numbered → List ℕ
row_fields numbered row = cond numbered (row.number ∷ row.cells) row.cells

-- the listing, with the numbers of each line written for its form (law `listing_lines`)
abbrev pub listed_lines : Bool → Opening → ℕ → List Row → Listing
listed_lines numbered o generation rows =
    record { head = head_numbers numbered o generation (length rows); rows = map (row_fields numbered) (live_from 0 rows) }

unfoldable pub head_line : Bool → Header → List ℕ
head_line numbered h = text_line (head_letter numbered) (head_numbers numbered (opening_of h) h.generation h.rows)

-- the line of a row, if it is live
unfoldable pub row_line : Bool → ℕ → List ℕ → List ℕ
row_line numbered number row = cond (is_live row) (text_line 68 (cond numbered (number ∷ row) row)) []

-- the lines of the live rows among the first rows of the store, numbered from `number` on
unfoldable pub row_lines : Bool → ℕ → ℕ → ℕ → List ℕ → List ℕ
row_lines numbered columns number zero rows = []
row_lines numbered columns number (suc count) rows =
    row_line numbered number (take columns rows) ++ row_lines numbered columns (suc number) count (drop columns rows)

-- a header within the bounds, whose rows are in the store
pub record Stored (h : Header) (rows : List ℕ) : Type 0 where
  pub narrow : h.columns ≤ 8
  pub few : h.rows ≤ 65536
  pub stored : h.rows * h.columns ≤ length rows

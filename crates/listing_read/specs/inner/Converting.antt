-- The lines of a listing in the other form, and contracts of the functions that write them. Assumes nothing.
use Rattle.std.specs.Prelude.{ℕ, suc, ◌+◌, ◌-◌, Bool, cond, List, [], ◌∷◌, drop}
use Rattle.listing_spec.specs.Laws.Conversions.{fields_length}
use Rattle.listing_parse.specs.declared.Survey.{Survey}

-- the numbers of a D line in the other form
unfoldable pub converted_row : Bool → ℕ → List ℕ → List ℕ
converted_row numbered number ns = cond numbered (drop 1 ns) (number ∷ ns)

-- the numbers of all D lines in the other form, starting with this row number
unfoldable pub converted_from : Bool → ℕ → List (List ℕ) → List (List ℕ)
converted_from numbered number [] = []
converted_from numbered number (ns ∷ rows) = converted_row numbered number ns ∷ converted_from numbered (suc number) rows

-- the head's numbers in the other form
unfoldable pub converted_head : Bool → Survey → List ℕ
converted_head numbered s =
    cond numbered (s.columns ∷ s.keys ∷ s.sort ∷ s.rule ∷ s.generation ∷ []) (s.columns ∷ s.keys ∷ s.sort ∷ s.rule ∷ s.generation ∷ s.rows ∷ [])

-- the length in the other form of a text of this many bytes
unfoldable pub converted_length : Bool → ℕ → ℕ → ℕ
converted_length numbered rows text = cond numbered (text - fields_length rows) (text + fields_length rows)

-- A text line by line: whether it is of a form, and the listing that is read from it. Assumes nothing.
use Rattle.std.specs.Prelude.{ℕ, suc, ◌+◌, ◌-◌, Bool, true, false, cond, not, ◌&&◌, List, [], ◌∷◌, length, get_or, leb, ltb, eqb}
use Rattle.levels_text.specs.Lines.{is_line, letter, numbers}
use Rattle.listing_spec.specs.Listings.{Listing, head_letter, head_width, prefix_width, is_head}

-- prepends a byte to the first of some pieces
unfoldable pub longer : ℕ → List (List ℕ) → List (List ℕ)
longer byte [] = []
longer byte (piece ∷ pieces) = (byte ∷ piece) ∷ pieces

-- the bytes before, between and after the newlines (10); there is always a last piece
unfoldable pub pieces : List ℕ → List (List ℕ)
pieces [] = [] ∷ []
pieces (byte ∷ bytes) = cond (eqb byte 10) ([] ∷ pieces bytes) (longer byte (pieces bytes))

unfoldable pub is_nil : List (List ℕ) → Bool
is_nil [] = true
is_nil (piece ∷ pieces) = false

-- a line of this letter with this many numbers, followed by a newline
unfoldable pub begins : ℕ → ℕ → List (List ℕ) → Bool
begins first width [] = false
begins first width (line ∷ rest) = not (is_nil rest) && (is_line line && eqb (letter line) first && eqb (length (numbers line)) width)

-- the first cell of a D line is not dead; in the new form its number is at least `least` and below the count
unfoldable pub row_fits : Bool → ℕ → ℕ → List ℕ → Bool
row_fits numbered count least ns =
    not (eqb (get_or ns (prefix_width numbered) 0) 4294967295) && cond numbered (leb least (get_or ns 0 0) && ltb (get_or ns 0 0) count) true

-- the D lines, at most `left` of them
unfoldable pub rows_good : Bool → ℕ → ℕ → ℕ → ℕ → List (List ℕ) → Bool
rows_good numbered columns count least left [] = false
rows_good numbered columns count least left (line ∷ rest) =
    cond (is_nil rest) (eqb (length line) 0)
    (ltb 0 left
    && (begins 68 (prefix_width numbered + columns) (line ∷ rest) && row_fits numbered count least (numbers line))
    && rows_good numbered columns count (suc (get_or (numbers line) 0 0)) (left - 1) rest)

unfoldable pub lines_to_rows : List (List ℕ) → List (List ℕ)
lines_to_rows [] = []
lines_to_rows (line ∷ rest) = cond (is_nil rest) [] (numbers line ∷ lines_to_rows rest)

-- the head line, then the D lines
unfoldable pub pieces_good : Bool → List (List ℕ) → Bool
pieces_good numbered [] = false
pieces_good numbered (head ∷ rest) =
    begins (head_letter numbered) (head_width numbered) (head ∷ rest)
    && is_head numbered (numbers head)
    && rows_good numbered (get_or (numbers head) 0 0) (get_or (numbers head) 5 0) 0 65536 rest

unfoldable pub listing_of : List (List ℕ) → Listing
listing_of [] = record { head = []; rows = [] }
listing_of (head ∷ rest) = record { head = numbers head; rows = lines_to_rows rest }

unfoldable pub text_good : Bool → List ℕ → Bool
text_good numbered text = pieces_good numbered (pieces text)

unfoldable pub listing_in : List ℕ → Listing
listing_in text = listing_of (pieces text)

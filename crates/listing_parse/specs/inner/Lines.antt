-- Contracts of reading a line of a listing. Assumes nothing.
use Rattle.std.specs.Prelude.{ℕ, suc, ◌+◌, ◌-◌, ◌≤◌, ◌<◌, ◌≡◌, Bool, true, false, ◌&&◌, List, [], ◌∷◌, length, take, drop, get_or, ltb, eqb}
use Rattle.lists.specs.Lists.{splice}
use Rattle.levels_text.specs.Lines.{value_from, is_decimal, numbers}
use Rattle.levels_text.specs.Laws.Lines.{first}
use Rattle.listing_spec.specs.Listings.{prefix_width}
use Rattle.listing_spec.specs.inner.Checking.{pieces, begins, rows_good, lines_to_rows}
use Rattle.listing_parse.specs.declared.Number.{Number}

-- the last byte is a newline
unfoldable pub ends_line : List ℕ → Bool
ends_line text = ltb 0 (length text) && eqb (get_or text (length text - 1) 0) 10

-- the bytes before the first newline
unfoldable pub line_from : List ℕ → List ℕ
line_from bytes = get_or (pieces bytes) 0 []

-- the bytes before the first comma or newline
unfoldable pub field_from : List ℕ → List ℕ
field_from bytes = first (line_from bytes)

-- Digits from `start` up to the end. They are a decimal; the field that begins at `start` is one exactly if it ends there too.
pub record DecimalFound (text : List ℕ) (start : ℕ) (n : Number) : Type 0 where
  pub forward : start < n.end
  pub inside : n.end < length text
  pub whole : start + length (field_from (drop start text)) ≡ n.end + length (field_from (drop n.end text))
  pub decimal : is_decimal (field_from (drop start text)) ≡ eqb (length (field_from (drop n.end text))) 0
  pub worth : length (field_from (drop n.end text)) ≡ 0 → n.value ≡ value_from 0 (field_from (drop start text))

pub record DecimalAt (text : List ℕ) (start : ℕ) (n : Number) : Type 0 where
  pub wrong : n.end ≡ 0 → is_decimal (field_from (drop start text)) ≡ false
  pub found : 0 < n.end → DecimalFound text start n

-- a decimal that is read again
pub record Reread (text : List ℕ) (start : ℕ) (n : Number) : Type 0 where
  pub worth : n.value ≡ value_from 0 (field_from (drop start text))
  pub behind : n.end ≡ start + length (field_from (drop start text))

-- a line of this letter with this many numbers, which are stored
pub record Found (text : List ℕ) (start first width next : ℕ) (stored : List ℕ) : Type 0 where
  pub forward : start < next
  pub inside : next ≤ length text
  pub cut : pieces (drop start text) ≡ line_from (drop start text) ∷ pieces (drop next text)
  pub good : begins first width (pieces (drop start text)) ≡ true
  pub read : take width stored ≡ numbers (line_from (drop start text))
  pub wide : width ≤ length stored

pub record LineAt (text : List ℕ) (start first width next : ℕ) (stored : List ℕ) : Type 0 where
  pub wrong : next ≡ 0 → begins first width (pieces (drop start text)) ≡ false
  pub found : 0 < next → Found text start first width next stored

-- a D line that is read again: nothing past its numbers changes
pub record LineReread (text : List ℕ) (start width : ℕ) (lent : List ℕ) (next : ℕ) (stored : List ℕ) : Type 0 where
  pub found : Found text start 68 width next stored
  pub put : stored ≡ splice lent 0 (take width stored)

-- A D line that passes its checks: the rows from `start` on are its row, then the rows from `next` on.
pub record RowFound (numbered : Bool) (columns count least : ℕ) (text : List ℕ) (start next : ℕ) (stored : List ℕ) : Type 0 where
  pub forward : start < next
  pub inside : next ≤ length text
  pub good : (left : ℕ) → rows_good numbered columns count least left (pieces (drop start text))
      ≡ (ltb 0 left && rows_good numbered columns count (suc (get_or stored 0 0)) (left - 1) (pieces (drop next text)))
  pub row : lines_to_rows (pieces (drop start text)) ≡ take (prefix_width numbered + columns) stored ∷ lines_to_rows (pieces (drop next text))

pub record RowAt (numbered : Bool) (columns count least : ℕ) (text : List ℕ) (start next : ℕ) (stored : List ℕ) : Type 0 where
  pub wrong : next ≡ 0 → (left : ℕ) → rows_good numbered columns count least left (pieces (drop start text)) ≡ false
  pub found : 0 < next → RowFound numbered columns count least text start next stored

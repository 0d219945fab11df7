-- Upper bounds of the lengths of a listing's lines. Assumes nothing.
use Rattle.std.specs.Prelude.{◌+◌, ◌*◌, ◌≤◌, ◌≡◌, ◌∷◌}
use Rattle.listing_write.specs.Laws.Prelude.{ℕ, zero, suc, ap, inl, inr, Bool, true, false, List, [], arith, length, take, drop, length-append, length-take, split, is_live, Header, text_line, length_written}
use Rattle.listing_spec.specs.Listings.{head_letter}
use Rattle.listing_write.specs.Writing.{stored_text}
use Rattle.listing_write.specs.inner.Lines.{head_numbers, head_line, row_line, row_lines}
use Rattle.listing_write.specs.Laws.Lines.{stored_lines}

pub row_numbered : (number : ℕ) (row : List ℕ) → is_live row ≡ true → row_line true number row ≡ text_line 68 (number ∷ row)
unfolding row_line
row_numbered number row e = rw e

pub row_live : (number : ℕ) (row : List ℕ) → is_live row ≡ true → row_line false number row ≡ text_line 68 row
unfolding row_line
row_live number row e = rw e

pub row_dead : (numbered : Bool) (number : ℕ) (row : List ℕ) → is_live row ≡ false → row_line numbered number row ≡ []
unfolding row_line
row_dead numbered number row e = rw e

-- a row's line takes at most 101 bytes
length_live : (numbered : Bool) (number : ℕ) (row : List ℕ) → length row ≤ 8 → is_live row ≡ true → length (row_line numbered number row) ≤ 101
length_live true number row few e = rw (row_numbered number row e) (omega (arith, length_written 68 (number ∷ row)))
length_live false number row few e = rw (row_live number row e) (omega (arith, length_written 68 row))

pub length_row : (numbered : Bool) (number : ℕ) (row : List ℕ) → length row ≤ 8 → length (row_line numbered number row) ≤ 101
length_row numbered number row few =
    elim (split (is_live row)) [
      | inl e ↦ length_live numbered number row few e
      | inr e ↦ rw (row_dead numbered number row e) (omega arith)
    ]

pub length_rows : (numbered : Bool) (columns number count : ℕ) (rows : List ℕ) → columns ≤ 8 → length (row_lines numbered columns number count rows) ≤ 101 * count
unfolding row_lines
length_rows numbered columns number zero rows narrow = omega arith
length_rows numbered columns number (suc count) rows narrow =
    let wide : length (take columns rows) ≤ 8 = rw length-take (omega arith) in
    omega
    (arith, length_row numbered number (take columns rows) wide, length_rows numbered columns (suc number) count (drop columns rows) narrow, length-append (row_line numbered number (take columns rows)) (row_lines numbered columns (suc number) count (drop columns rows)))

-- the head line takes at most 68 bytes
pub length_head : (numbered : Bool) (h : Header) → length (head_line numbered h) ≤ 68
unfolding head_line head_numbers head_letter
length_head true h = length_written 85 (h.columns ∷ h.keys ∷ h.sort ∷ h.rule ∷ h.generation ∷ h.rows ∷ [])
length_head false h = omega (arith, length_written 84 (h.columns ∷ h.keys ∷ h.sort ∷ h.rule ∷ h.generation ∷ []))

-- the whole text
pub length_stored : (numbered : Bool) (h : Header) (rows : List ℕ) → length (stored_text numbered h rows) ≡ length (head_line numbered h) + length (row_lines numbered h.columns 0 h.rows rows)
length_stored numbered h rows =
    omega (arith, ap length (stored_lines numbered h rows), length-append (head_line numbered h) (row_lines numbered h.columns 0 h.rows rows))

pub length_most : (numbered : Bool) (h : Header) (rows : List ℕ) → h.columns ≤ 8 → length (stored_text numbered h rows) ≤ 68 + 101 * h.rows
length_most numbered h rows narrow =
    omega (arith, length_stored numbered h rows, length_head numbered h, length_rows numbered h.columns 0 h.rows rows narrow)

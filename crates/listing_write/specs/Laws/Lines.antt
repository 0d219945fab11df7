-- The text of a table's listing is its head line and the lines of its live rows, row by row. Assumes nothing.
use Rattle.std.specs.Prelude.{◌*◌, ◌≡◌, ◌++◌}
use Rattle.listing_write.specs.Laws.Prelude.{ℕ, zero, suc, refl, ap, inl, inr, Bool, true, false, List, map, map-map, mul-le-mul_right, arith, length, take, drop, ltb-false, split, is_live, Opening, Header, opening_of, row_of_cells, length_rows_in, outside_inside, text_line}
use Rattle.lists.specs.Lists.{rows_of, flatten}
use Rattle.plain_table.specs.Plain.{Row, live_from}
use Rattle.table.specs.Refusing.{outside, rows_short}
use Rattle.table.specs.Stores.{rows_in}
use Rattle.listing_spec.specs.Listings.{listing_text, from_numbered}
use Rattle.listing_write.specs.Writing.{table_listing, stored_text}
use Rattle.listing_write.specs.inner.Lines.{head_numbers, row_fields, listed_lines, head_line, row_line, row_lines, Stored}

pub listing_lines : (numbered : Bool) (o : Opening) (generation : ℕ) (rows : List Row) → table_listing numbered o generation rows ≡ listed_lines numbered o generation rows
unfolding table_listing from_numbered head_numbers row_fields
listing_lines true o generation rows = refl
listing_lines false o generation rows =
    ap (λ (rs : List (List ℕ)). record { head = head_numbers false o generation (length rows); rows = rs }) (map-map (drop 1) (row_fields true) (live_from 0 rows))

live_lines : (numbered : Bool) (columns number count : ℕ) (rows : List ℕ)
    → flatten (map (text_line 68) (map (row_fields numbered) (live_from number (map row_of_cells (rows_of columns count rows))))) ≡ row_lines numbered columns number count rows
unfolding row_lines row_line row_fields live_from rows_of flatten
live_lines numbered columns number zero rows = refl
live_lines numbered columns number (suc count) rows =
    elim (split (is_live (take columns rows))) [
      | inl e ↦ rw (e, live_lines numbered columns (suc number) count (drop columns rows))
      | inr e ↦ rw (e, live_lines numbered columns (suc number) count (drop columns rows))
    ]

pub stored_lines : (numbered : Bool) (h : Header) (rows : List ℕ) → stored_text numbered h rows ≡ head_line numbered h ++ row_lines numbered h.columns 0 h.rows rows
unfolding stored_text listing_text head_line
stored_lines numbered h rows = rw (listing_lines numbered (opening_of h) h.generation (rows_in h rows), length_rows_in h rows) (unfold rows_in in rw (live_lines numbered h.columns 0 h.rows rows))

-- what checks 1 and 2 establish
pub checked_rows_stored : (h : Header) (rows : List ℕ) → outside h ≡ false → rows_short h (length rows) ≡ false → Stored h rows
unfolding rows_short
checked_rows_stored h rows e f =
    let i = outside_inside h e in
    let long = ltb-false (length rows) (h.capacity * h.columns) f in
    record {
      narrow = i.bounds.columns_few;
      few = omega (arith, i.rows_fit, i.bounds.capacity_few);
      stored = omega (arith, mul-le-mul_right h.columns i.rows_fit, long);
    }

-- Stores that show a plain table: each of their rows, and the tests that the header and the lengths pass. Assumes nothing.
use Rattle.table.proofs.Laws.Prelude.{ℕ, ◌*◌, ◌≤◌, ◌<◌, ◌≡◌, sym, ap, ◌∙◌, true, false, ◌||◌, List, [], map, mul-le-mul_right, arith, leb, ltb, eqb, length, get_or, length-map, ltb-false, le-ltb, le-leb, eqb-true, row_at, rows_of, widths, length_rows_of, get_d_rows_of, rows_of_widths, all_weaker, or_no_left, or_no_right, LiveAt, rebuilt_few, Opening, Plain, Proper, row_of, live_below_lem, openable_bounds, dead_le, Header, index_shape_of, Stores, lengths, Represents}
use Rattle.plain_table.specs.Refusing.{Lengths, stores_short}
use Rattle.table.specs.Refusing.{outside}
use Rattle.table.specs.Stores.{entries, header_of, stored, RowShown}
use Rattle.table.proofs.Laws.Stored.{stored_shown, shown_stored}

-- ---- the lengths of the stores

-- the stores pass test 2
pub record LongEnough (o : Opening) (rows keys sorts : ℕ) : Type 0 where
  pub rows_long : o.capacity * o.columns ≤ rows
  pub keys_long : 2 * o.capacity ≤ keys
  pub sorts_long : 2 * o.capacity ≤ sorts

-- stores that are not short are long enough
pub stores_long : (o : Opening) (l : Lengths) → stores_short o l ≡ false → LongEnough o l.rows l.keys l.sorts
unfolding stores_short
stores_long o l e =
    let a = or_no_left (ltb l.rows (o.capacity * o.columns) || ltb l.keys (2 * o.capacity)) _ e in
    record {
      rows_long = ltb-false _ _ (or_no_left (ltb l.rows (o.capacity * o.columns)) _ a);
      keys_long = ltb-false _ _ (or_no_right (ltb l.rows (o.capacity * o.columns)) _ a);
      sorts_long = ltb-false _ _ (or_no_right (ltb l.rows (o.capacity * o.columns) || ltb l.keys (2 * o.capacity)) _ e);
    }

-- conversely
pub long_stores : (o : Opening) (l : Lengths) → LongEnough o l.rows l.keys l.sorts → stores_short o l ≡ false
unfolding stores_short
long_stores o l g = rw (le-ltb _ _ g.rows_long, le-ltb _ _ g.keys_long, le-ltb _ _ g.sorts_long)

-- ---- the header

-- there are no more entries than rows
pub entries_few : (p : Plain) → length (entries p) ≤ length p.rows
unfolding entries
entries_few p = omega (arith, rebuilt_few (map (λ row. get_or row.cells p.opening.sort 0) p.rows), length-map p.rows (λ row. get_or row.cells p.opening.sort 0))

-- the header of a proper plain table passes test 1
pub header_inside : {p : Plain} → Proper p → outside (header_of p) ≡ false
unfolding outside
header_inside {p} proper = rw (proper.numbers, le-leb _ _ proper.rows_fit, le-leb _ _ (dead_le p), le-leb _ _ (entries_few p))

-- ---- row by row

-- the rows fit into the store
pub rows_in_lem : {p : Plain} → Proper p → (rows : ℕ) → p.opening.capacity * p.opening.columns ≤ rows → length p.rows * p.opening.columns ≤ rows
rows_in_lem {p} proper rows h = omega (arith, mul-le-mul_right p.opening.columns proper.rows_fit)

-- each stored row has the width of a row
pub wide_rows : {p : Plain} → Proper p → (rows : List ℕ) → p.opening.capacity * p.opening.columns ≤ length rows
    → widths p.opening.columns (rows_of p.opening.columns (length p.rows) rows) ≡ true
wide_rows {p} proper rows h = rows_of_widths p.opening.columns (length p.rows) rows (rows_in_lem proper (length rows) h)

shown_own : {p : Plain} (rows : List ℕ) → Proper p → p.opening.capacity * p.opening.columns ≤ length rows
    → stored p.rows (rows_of p.opening.columns (length p.rows) rows) ≡ rows_of p.opening.columns (length p.rows) rows
    → (i : ℕ) → i < length p.rows → RowShown (row_of p i) (row_at p.opening.columns i rows)
shown_own {p} rows proper long e i k =
    let w : ℕ = p.opening.columns in
    let some-cells = (openable_bounds p.opening proper.numbers).columns_some in
    let cells_in = all_weaker (λ (r : List ℕ). eqb (length r) w) (λ r. leb 1 (length r)) (λ r q. let z : length r ≡ w = eqb-true _ _ q in le-leb 1 (length r) (omega arith)) (rows_of w (length p.rows) rows) (wide_rows proper rows long) in
    rw (get_d_rows_of w (length p.rows) rows i k) at
    (stored_shown p.rows (rows_of w (length p.rows) rows) (length_rows_of w (length p.rows) rows) proper.live_first cells_in e i k)

-- the rows stored over themselves do not change, if they show the plain ones
pub checked_rows_stored : {p : Plain} (h : Header) (rows : List ℕ) → Proper p → p.opening.capacity * p.opening.columns ≤ length rows → h ≡ header_of p
    → stored p.rows (rows_of h.columns h.rows rows) ≡ rows_of h.columns h.rows rows
    → (i : ℕ) → i < h.rows → RowShown (row_of p i) (row_at h.columns i rows)
checked_rows_stored {p} h rows proper long e q i k = rw e (shown_own rows proper long (rw e at q) i (rw e at k))

module _ {p : Plain} {s : Stores} (r : Represents p s) where
  -- the stores are long enough
  pub represents_long : LongEnough p.opening (length s.rows) (length s.keys) (length s.sorts)
  represents_long = stores_long p.opening (lengths s.rows s.keys s.sorts s.pending [] []) r.long_enough

  -- the header passes test 1
  pub represents_inside : outside s.header ≡ false
  represents_inside = rw r.shown.header (header_inside r.proper)

  -- each row is shown
  pub row_shown : (i : ℕ) → i < length p.rows → RowShown (row_of p i) (row_at s.header.columns i s.rows)
  row_shown i h = r.shown.rows_shown i (rw (ap (λ (h : Header). h.rows) r.shown.header) h)

  -- the header counts the rows
  pub rows_counted : s.header.rows ≡ length p.rows
  rows_counted = ap (λ (h : Header). h.rows) r.shown.header

  -- the rows stored over themselves do not change
  pub rows_stored : stored p.rows (rows_of s.header.columns s.header.rows s.rows) ≡ rows_of s.header.columns s.header.rows s.rows
  rows_stored =
      shown_stored p.rows (rows_of s.header.columns s.header.rows s.rows) (length_rows_of s.header.columns s.header.rows s.rows ∙ rows_counted)
      (λ i k. let b : i < s.header.rows = rw rows_counted k in rw (get_d_rows_of s.header.columns s.header.rows s.rows i b) (r.shown.rows_shown i b))

  -- a live row of the plain table is a live row of the stores
  pub live_in : (i : ℕ) → (row_of p i).live ≡ true → LiveAt (index_shape_of s.header) s.rows i
  live_in i e =
      let h = live_below_lem p.rows i e in
      (omega (arith, rows_counted), sym (row_shown i h).live ∙ e)

  -- conversely
  pub in_live : (i : ℕ) → LiveAt (index_shape_of s.header) s.rows i → (row_of p i).live ≡ true
  in_live i l = (row_shown i (omega (arith, rows_counted, l.0))).live ∙ l.1

  -- its cells are the stored ones
  pub live_cells_lem : (i : ℕ) → (row_of p i).live ≡ true → (row_of p i).cells ≡ row_at s.header.columns i s.rows
  live_cells_lem i e = (row_shown i (live_below_lem p.rows i e)).same e

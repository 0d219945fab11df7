-- The live rows read from the header and the row store are the plain table's. Assumes nothing.
use Rattle.table.proofs.Laws.Prelude.{ℕ, suc, ◌<◌, suc-le-suc, ◌≡◌, refl, ◌∙◌, Bool, true, false, cond, List, [], ◌∷◌, map, arith, length, get_or, length-map, row_at, rows_of, get_d_map_below, length_rows_of, get_d_rows_of, is_live, no_row, Header, Stores, Represents}
use Rattle.plain_table.specs.Plain.{Row, Plain, live_from, live_rows}
use Rattle.table.specs.Stores.{rows_in, RowShown}
use Rattle.table.proofs.Laws.Shown.{row_shown, rows_counted}

-- the plain row with these stored cells: live unless they begin with the dead mark
abbrev pub row_of_cells : List ℕ → Row
row_of_cells cells = record { live = is_live cells; cells = cells }

pub length_rows_in : (h : Header) (rows : List ℕ) → length (rows_in h rows) ≡ h.rows
unfolding rows_in
length_rows_in h rows = length-map (rows_of h.columns h.rows rows) row_of_cells ∙ length_rows_of h.columns h.rows rows

pub get_d_rows_in : (h : Header) (rows : List ℕ) (i : ℕ) → i < h.rows → get_or (rows_in h rows) i no_row ≡ row_of_cells (row_at h.columns i rows)
unfolding rows_in
get_d_rows_in h rows i k =
    get_d_map_below row_of_cells (rows_of h.columns h.rows rows) i [] no_row (omega (arith, length_rows_of h.columns h.rows rows))
    ∙ rw (get_d_rows_of h.columns h.rows rows i k)

-- rows that are shown position by position have the same live rows
live_from_lem : (n : ℕ) (rows : List Row) (cells : List (List ℕ)) → length cells ≡ length rows
    → ((i : ℕ) → i < length rows → RowShown (get_or rows i no_row) (get_or cells i [])) → live_from n (map row_of_cells cells) ≡ live_from n rows
unfolding live_from
live_from_lem n [] [] e f = refl
live_from_lem n [] (c ∷ cells) e f = absurd (omega arith)
live_from_lem n (row ∷ rows) [] e f = absurd (omega arith)
live_from_lem n (row ∷ rows) (c ∷ cells) e f = go (live_from_lem (suc n) rows cells (omega arith) (λ i h. f (suc i) (suc-le-suc h))) (f 0 (omega arith)) row.live refl
  where
    go : live_from (suc n) (map row_of_cells cells) ≡ live_from (suc n) rows → RowShown row c → (b : Bool) → row.live ≡ b
        → cond (is_live c) (record { number = n; cells = c } ∷ live_from (suc n) (map row_of_cells cells)) (live_from (suc n) (map row_of_cells cells))
        ≡ cond b (record { number = n; cells = row.cells } ∷ live_from (suc n) rows) (live_from (suc n) rows)
    go ih s true q = rw (← s.live, q, ih, s.same q)
    go ih s false q = rw (← s.live, q, ih)

-- "the live rows, numbers and cells, are those of document 01's plain table"
pub live_shown : {p : Plain} {s : Stores} → Represents p s → live_from 0 (rows_in s.header s.rows) ≡ live_rows p
unfolding rows_in live_rows
live_shown {p} {s} r =
    live_from_lem 0 p.rows (rows_of s.header.columns s.header.rows s.rows)
    (length_rows_of s.header.columns s.header.rows s.rows ∙ rows_counted r)
    (λ i h. rw (get_d_rows_of s.header.columns s.header.rows s.rows i (omega (arith, rows_counted r))) (row_shown r i h))

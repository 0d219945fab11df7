-- Key lookup: a key leads to row i exactly if row i is live in the stores and has that key. This holds for the header and the row
-- store alone, and for the plain table that the stores show. Assumes nothing.
use Rattle.refusals.specs.Refusals.{found_view}
use Rattle.refusals.specs.declared.Refusal.{Refusal}
use Rattle.std.specs.Prelude.{Result, Option as Optional}
use Rattle.table.proofs.Laws.Prelude.{ℕ, ◌<◌, ◌≡◌, sym, ap, ap₂, ◌∙◌, true, none, some, Option·map, List, arith, length, get_or, find, row_at, accepted, LiveAt, key_at, has_key, none_lookup, one_lookup, row_of, live_with_key_of, live_with_key_live, live_with_key_key, live_below_lem, Header, lookup_refusal, cell_refusal, rows_in, index_shape_of, KeysDiffer, Stores, stores, Represents, of_rows, LookedUp, CellRead}
use Rattle.plain_table.specs.Plain.{Row, Plain, Numbered, live_from, live_rows, lookup, live_with_key}
use Rattle.table.proofs.Laws.Shown.{live_in, in_live, live_cells_lem}
use Rattle.table.proofs.Laws.Sound.{represents_sound}
use Rattle.table.proofs.Laws.Live.{row_of_cells, length_rows_in, get_d_rows_in, live_shown}

module _ {p : Plain} {s : Stores} (r : Represents p s) (key : List ℕ) where
  keys_same : s.header.keys ≡ p.opening.keys
  keys_same = ap (λ (h : Header). h.keys) r.shown.header

  -- a live row of the key in the plain table is live in the stores and has the key
  pub passes_live : (i : ℕ) → live_with_key p.opening.keys key (row_of p i) ≡ true → LiveAt (index_shape_of s.header) s.rows i × (key_at (index_shape_of s.header) s.rows i ≡ key)
  passes_live i t =
      let e = live_with_key_live p.opening.keys key (row_of p i) t in
      (live_in r i e, rw (keys_same, ← live_cells_lem r i e) (live_with_key_key p.opening.keys key (row_of p i) t))

  -- conversely
  pub live_passes : (i : ℕ) → LiveAt (index_shape_of s.header) s.rows i → key_at (index_shape_of s.header) s.rows i ≡ key → live_with_key p.opening.keys key (row_of p i) ≡ true
  live_passes i l e =
      let q = in_live r i l in
      live_with_key_of p.opening.keys key (row_of p i) q (rw (live_cells_lem r i q, ← keys_same) e)

  -- a live row that has the key is found
  pub row_lookup : (i : ℕ) → LiveAt (index_shape_of s.header) s.rows i → key_at (index_shape_of s.header) s.rows i ≡ key
      → lookup p key ≡ some (record { number = i; cells = row_at s.header.columns i s.rows })
  row_lookup i l e =
      one_lookup p key i (live_passes i l e) (λ j f. let g = passes_live j f in (represents_sound r).contents.keys_differ j i g.0 l (g.1 ∙ sym e))
      ∙ ap (λ (cells : List ℕ). some (record { number = i; cells = cells })) (live_cells_lem r i (in_live r i l))

  -- if no live row has the key, nothing is found
  pub none_found : ((i : ℕ) → LiveAt (index_shape_of s.header) s.rows i → key_at (index_shape_of s.header) s.rows i ≡ key → ⊥) → lookup p key ≡ none
  none_found f = none_lookup p key (λ i e. let g = passes_live i e in f i g.0 g.1)

-- ---- from a header and a row store alone

module _ (h : Header) (rows key : List ℕ) where
  row_of_cells_lem : (i : ℕ) → i < h.rows → row_of (of_rows h rows) i ≡ row_of_cells (row_at h.columns i rows)
  row_of_cells_lem i k = get_d_rows_in h rows i k

  row_below : (i : ℕ) → (row_of (of_rows h rows) i).live ≡ true → i < h.rows
  row_below i e = omega (arith, live_below_lem (rows_in h rows) i e, length_rows_in h rows)

  -- a live row of the key is live in the row store and has the key
  row_passes : (i : ℕ) → live_with_key h.keys key (row_of (of_rows h rows) i) ≡ true → LiveAt (index_shape_of h) rows i × (key_at (index_shape_of h) rows i ≡ key)
  row_passes i t =
      let k = row_below i (live_with_key_live h.keys key (row_of (of_rows h rows) i) t) in
      let u : live_with_key h.keys key (row_of_cells (row_at h.columns i rows)) ≡ true = rw (row_of_cells_lem i k) at t in
      ((k, live_with_key_live h.keys key (row_of_cells (row_at h.columns i rows)) u), live_with_key_key h.keys key (row_of_cells (row_at h.columns i rows)) u)

  -- conversely
  passes_row : (i : ℕ) → LiveAt (index_shape_of h) rows i → key_at (index_shape_of h) rows i ≡ key → live_with_key h.keys key (row_of (of_rows h rows) i) ≡ true
  passes_row i l e = rw (row_of_cells_lem i l.0) (live_with_key_of h.keys key (row_of_cells (row_at h.columns i rows)) l.1 e)

  -- a live row that has the key is found, if live keys differ
  pub row_read : KeysDiffer h rows → (i : ℕ) → LiveAt (index_shape_of h) rows i → key_at (index_shape_of h) rows i ≡ key
      → lookup (of_rows h rows) key ≡ some (record { number = i; cells = row_at h.columns i rows })
  row_read differ i l e =
      one_lookup (of_rows h rows) key i (passes_row i l e) (λ j f. let g = row_passes j f in differ j i g.0 l (g.1 ∙ sym e))
      ∙ ap (λ (row : Row). some (record { number = i; cells = row.cells })) (row_of_cells_lem i l.0)

  -- if no live row has the key, nothing is found
  pub none_read : ((i : ℕ) → LiveAt (index_shape_of h) rows i → key_at (index_shape_of h) rows i ≡ key → ⊥) → lookup (of_rows h rows) key ≡ none
  none_read f = none_lookup (of_rows h rows) key (λ i e. let g = row_passes i e in f i g.0 g.1)

-- ---- on every sound table, and as in the plain table that it shows

module _ {p : Plain} {h : Header} {rows keys sorts pending : List ℕ} (key : List ℕ) (r : Represents p (stores h rows keys sorts pending)) where
  rows_lookup : lookup (of_rows h rows) key ≡ lookup p key
  unfolding lookup live_rows
  rows_lookup =
      let n : h.keys ≡ p.opening.keys = ap (λ (x : Header). x.keys) r.shown.header in
      let l : live_from 0 (rows_in h rows) ≡ live_from 0 p.rows = live_shown r in
      ap₂ (λ (k : ℕ) (rows : List Numbered). find (λ row. has_key k key row.cells) rows) n l

  pub looked_up_plain : {answer : Result (Optional ℕ) Refusal} → LookedUp h rows keys key answer → lookup_refusal h (length rows) (length keys) (length key) ≡ 0
      → found_view answer ≡ accepted (Option·map (λ row. row.number) (lookup p key))
  looked_up_plain m passed = rw (← rows_lookup) (m.table passed r.keys_sound (represents_sound r).contents.keys_differ)

  pub cell_read_plain : {column : ℕ} {answer : Result (Optional ℕ) Refusal} → CellRead h rows keys key column answer → cell_refusal h (length rows) (length keys) (length key) column ≡ 0
      → found_view answer ≡ accepted (Option·map (λ row. get_or row.cells column 0) (lookup p key))
  cell_read_plain m passed = rw (← rows_lookup) (m.table passed r.keys_sound (represents_sound r).contents.keys_differ)

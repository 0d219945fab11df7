-- The check of sort cells, stated for each live row. Assumes nothing.
use Rattle.std.specs.Prelude.{◌<◌, ◌≡◌}
use Rattle.sort_entries.specs.Laws.Prelude.{ℕ, ◌∙◌, inl, inr, true, List, zero-add, length, get_or, eqb-true, eq-eqb, iota, row_at, split, all_get_d, all_of, length_iota, get_d_iota, is_live, Entry, value_at}
use Rattle.sort_entries.specs.inner.Checks.{cell_sound, cells_sound}

module _ (store : List ℕ) (columns sort row value : ℕ) where
  pub cell_live : cell_sound store columns sort row value ≡ true → is_live (row_at columns row store) ≡ true → get_or (row_at columns row store) sort 0 ≡ value
  unfolding cell_sound
  cell_live e l = eqb-true _ _ (rw l at e)

  pub cell_of : (is_live (row_at columns row store) ≡ true → get_or (row_at columns row store) sort 0 ≡ value) → cell_sound store columns sort row value ≡ true
  unfolding cell_sound
  cell_of f = elim (split (is_live (row_at columns row store))) [ inl l ↦ rw (l, eq-eqb _ _ (f l)) | inr l ↦ rw l ]

module _ (store : List ℕ) (columns sort rows : ℕ) (es : List Entry) where
  number : (i : ℕ) → i < rows → get_or (iota 0 rows) i 0 ≡ i
  number i h = get_d_iota 0 rows i 0 h ∙ zero-add i

  pub cells_live : cells_sound store columns sort rows es ≡ true → (i : ℕ) → i < rows → is_live (row_at columns i store) ≡ true
      → get_or (row_at columns i store) sort 0 ≡ value_at i es
  unfolding cells_sound
  cells_live e i h =
      let k : i < length (iota 0 rows) = rw (length_iota 0 rows) h in
      cell_live store columns sort i (value_at i es)
      (rw (number i h) at (all_get_d (λ row. cell_sound store columns sort row (value_at row es)) (iota 0 rows) e i k 0))

  pub cells_of : ((i : ℕ) → i < rows → is_live (row_at columns i store) ≡ true → get_or (row_at columns i store) sort 0 ≡ value_at i es)
      → cells_sound store columns sort rows es ≡ true
  unfolding cells_sound
  cells_of f = all_of (λ row. cell_sound store columns sort row (value_at row es)) 0 (iota 0 rows) each
    where
      each : (i : ℕ) → i < length (iota 0 rows) → cell_sound store columns sort (get_or (iota 0 rows) i 0) (value_at (get_or (iota 0 rows) i 0) es) ≡ true
      each i k =
          let h : i < rows = rw (length_iota 0 rows) at k in
          rw (number i h) (cell_of store columns sort i (value_at i es) (f i h))

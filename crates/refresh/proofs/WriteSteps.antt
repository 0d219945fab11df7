-- The records of a row, word for word. Assumes nothing.
use Rattle.refresh.proofs.Prelude.{ℕ, ◌+◌, ◌-◌, ◌*◌, ◌≤◌, ◌<◌, ◌≡◌, sym, ap, ◌∙◌, List, [], ◌∷◌, ◌++◌, append-nil, suc-mul, add-one, arith, length, take, drop, set, length-set, length-take-le, take-take, take-set-lt, part_width, length_splice, splice_then, length_row_at, take_put, key_row, Inside, inside, insert, remove_row, Header, outside_inside}
use Rattle.lists.specs.Lists.{splice, row_at, flatten}
use Rattle.cells.specs.Cells.{compact_hash, key_hash}
use Rattle.plain_table.specs.Refreshing.{restamping, refreshed}
use Rattle.table.specs.Stores.{record_words}
use Rattle.refresh.specs.inner.Staging.{RowInStore, numbered, rows_words, row_words}

module _ {h : Header} {rows : List ℕ} {row : ℕ} (l : RowInStore h rows row) where
  -- where a row is, and its numbers
  pub record Within : Type 0 where
    pub place : Inside rows h.columns row
    pub columns_few : h.columns ≤ 8
    pub keys_few : h.keys ≤ h.columns
    pub sort_there : h.sort < h.columns

  pub within : Within
  within =
      let i = outside_inside h l.inside in
      record {
        place = inside rows h.columns h.capacity row i.bounds.capacity_few i.bounds.columns_few l.rows_long (omega (arith, l.row_below, i.rows_fit));
        columns_few = i.bounds.columns_few;
        keys_few = i.bounds.keys_few;
        sort_there = i.bounds.sort_column;
      }

  abbrev here : List ℕ
  here = row_at h.columns row rows

  pub here_wide : length here ≡ h.columns
  here_wide = length_row_at h.columns row rows (rw (add-one row, suc-mul) within.place.in_store)

  pub removal_words : (hash : ℕ) → hash ≡ compact_hash (key_hash (take (row * h.columns + h.keys - row * h.columns) (drop (row * h.columns) rows)))
      → ◌≡◌ {A = List ℕ} (2 ∷ hash ∷ row ∷ take (row * h.columns + h.keys - row * h.columns) (drop (row * h.columns) rows)) (record_words h.keys (remove_row row (take h.keys here)))
  unfolding record_words
  removal_words hash e =
      let k : take (row * h.columns + h.keys - row * h.columns) (drop (row * h.columns) rows) ≡ take h.keys here =
      part_width rows (row * h.columns) h.keys ∙ sym (key_row h.columns row h.keys rows within.keys_few) in
      rw (e, k)

  -- the row goes into an array of eight cells
  pub part_fits : 0 + length (take (row * h.columns + h.columns - row * h.columns) (drop (row * h.columns) rows)) ≤ 8
  unfolding row_at
  part_fits = rw (part_width rows (row * h.columns) h.columns) (omega (arith, here_wide, within))

  -- the row written into an array and restamped there
  module _ (array written : List ℕ) (stamp : ℕ) (long : length array ≡ 8) (made : written ≡ splice array 0 (take (row * h.columns + h.columns - row * h.columns) (drop (row * h.columns) rows))) where
    row_made_lem : written ≡ splice array 0 here
    unfolding row_at
    row_made_lem = made ∙ ap (splice array 0) (part_width rows (row * h.columns) h.columns)

    pub cells_fit : h.columns ≤ length (set written h.sort stamp)
    cells_fit = omega (arith, length-set written h.sort stamp, ap length row_made_lem, length_splice array here 0 (omega (arith, here_wide, within)), within)

    pub key_fits : h.keys ≤ length (set written h.sort stamp)
    key_fits = omega (arith, cells_fit, within)

    pub cells_restamped : take h.columns (set written h.sort stamp) ≡ set here h.sort stamp
    cells_restamped =
        rw row_made_lem
        (take-set-lt h.columns (splice array 0 here) h.sort stamp within.sort_there
        ∙ ap (λ (x : List ℕ). set x h.sort stamp) (ap (λ (n : ℕ). take n (splice array 0 here)) (sym here_wide) ∙ take_put array here))

    pub restamped_words : (hash : ℕ) → hash ≡ compact_hash (key_hash (take h.keys (set written h.sort stamp)))
        → ◌≡◌ {A = List ℕ} (0 ∷ hash ∷ take (h.columns - 0) (set written h.sort stamp)) (record_words h.keys (insert (set here h.sort stamp)))
    unfolding record_words
    restamped_words hash e =
        let k : take h.keys (set written h.sort stamp) ≡ take h.keys (set here h.sort stamp) =
        sym (take-take h.keys h.columns (set written h.sort stamp) within.keys_few) ∙ ap (take h.keys) cells_restamped in
        let z : h.columns - 0 ≡ h.columns = omega arith in
        rw (e, k, z, cells_restamped)

  -- both, one after the other
  pub both_words : (stamp : ℕ) (pending : List ℕ) (at : ℕ) → at + row_words h ≤ length pending
      → splice (splice pending at (record_words h.keys (remove_row row (take h.keys here)))) (at + (h.keys + 3)) (record_words h.keys (insert (set here h.sort stamp)))
      ≡ splice pending at (rows_words h stamp (numbered h rows row ∷ []))
  unfolding rows_words refreshed restamping flatten record_words
  both_words stamp pending at fits =
      let k : length (take h.keys here) ≡ h.keys = length-take-le h.keys here (omega (arith, here_wide, within)) in
      let n : length (set here h.sort stamp) ≡ h.columns = length-set here h.sort stamp ∙ here_wide in
      let v : List ℕ = 2 ∷ compact_hash (key_hash (take h.keys here)) ∷ row ∷ take h.keys here in
      let w : List ℕ = 0 ∷ compact_hash (key_hash (take h.keys (set here h.sort stamp))) ∷ set here h.sort stamp in
      let e : at + (h.keys + 3) ≡ at + length v = omega arith in
      ap (λ (i : ℕ). splice (splice pending at v) i w) e ∙ splice_then pending v w at (omega arith) ∙ ap (λ (x : List ℕ). splice pending at (v ++ x)) (sym (append-nil w))

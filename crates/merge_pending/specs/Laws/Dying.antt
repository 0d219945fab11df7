-- One row of a plain table dies: which row a removal removes, and the stores after that. Shared by the removals and by the insert
-- of a known key. Assumes nothing.
use Rattle.std.specs.Prelude.{◌+◌, ◌*◌, ◌≤◌, ◌<◌, ◌≡◌, ◌⊎◌, ◌∷◌, ◌++◌}
use Rattle.merge_pending.specs.Laws.Prelude.{ℕ, zero, suc, refl, sym, ap, ap₂, ◌∙◌, inl, inr, true, false, cond, not, false≢true, List, [], add-one, arith, length, take, get_or, set, length-set, length-take, drop-set-lt, map-set_same, not-true, split, all_get_d, all_of, all_head, all_tail, splice_front, row_in, flatten_rows_of, get_d_rows_of, length_rows_of, LiveAt, key_at, KeysSound, stale_rows, Entry, entry_words, rebuilt, remove_key, remove_row, Proper, row_of, no_row, Thinned, empty, same_row_lem, died, thinned_same, free_row, keys_distinct, keys_distinct_of, keys_distinct_head, keys_distinct_tail, live_below_lem, live_with_key_live, live_with_key_key, openable_bounds, thinned_proper, Header, index_shape_of, Stores, stores, lengths, Represents, Later, Becomes, with_counts, with_dead, stored_again, rows_in_lem, long_stores, checked_rows_stored, represents_long, rows_stored, rows_counted, passes_live, live_passes}
use Rattle.lists.specs.Lists.{splice, count, all, row_at, rows_of, flatten}
use Rattle.plain_table.specs.Plain.{Row, Plain, dead_row, with_rows, dead, live_with_key, kill_if, without_key, dies, without_row}
use Rattle.table.specs.Stores.{entries, header_of, marked, stored, row_store, sort_store}
use Rattle.merge_pending.specs.Laws.Steps.{steps_refl}

-- row i dies
unfoldable pub kill_at : ℕ → List Row → List Row
kill_at i rows = set rows i (dead_row (get_or rows i no_row))

-- ---- which row dies

-- if no live row has the key, no row dies
pub kill_if_none : (keys : ℕ) (key : List ℕ) (rows : List Row) → all (free_row keys key) rows ≡ true → kill_if (live_with_key keys key) rows ≡ rows
unfolding kill_if
kill_if_none keys key [] e = refl
kill_if_none keys key (row ∷ rows) e =
    let free : live_with_key keys key row ≡ false = not-true _ (all_head (free_row keys key) row rows e) in
    ap₂ (λ (r : Row) (rs : List Row). r ∷ rs) (rw free)
    (kill_if_none keys key rows (all_tail (free_row keys key) row rows e))

-- if live keys differ, it is the one live row with the key
pub kill_if_one : (keys : ℕ) (key : List ℕ) (rows : List Row) (i : ℕ) → keys_distinct keys rows ≡ true → live_with_key keys key (get_or rows i no_row) ≡ true
    → kill_if (live_with_key keys key) rows ≡ kill_at i rows
unfolding kill_if kill_at
kill_if_one keys key [] i a e = refl
kill_if_one keys key (row ∷ rows) zero a e =
    let k = live_with_key_key keys key row e in
    let f : all (free_row keys key) rows ≡ true = rw k at (keys_distinct_head keys row rows a (live_with_key_live keys key row e)) in
    ap₂ (λ (r : Row) (rs : List Row). r ∷ rs) (rw e) (kill_if_none keys key rows f)
kill_if_one keys key (row ∷ rows) (suc i) a e =
    ap₂ (λ (r : Row) (rs : List Row). r ∷ rs) (first (split (live_with_key keys key row))) (kill_if_one keys key rows i (keys_distinct_tail keys row rows a) e)
  where
    first : (live_with_key keys key row ≡ true) ⊎ (live_with_key keys key row ≡ false) → cond (live_with_key keys key row) (dead_row row) row ≡ row
    first (inl q) =
        let f : all (free_row keys key) rows ≡ true = rw (live_with_key_key keys key row q) at (keys_distinct_head keys row rows a (live_with_key_live keys key row q)) in
        let below = live_below_lem rows i (live_with_key_live keys key (get_or rows i no_row) e) in
        absurd (false≢true (sym (not-true _ (all_get_d (free_row keys key) rows f i below no_row)) ∙ e))
    first (inr q) = rw q

-- a removal by row removes the row if it is a live row with the key
pub dies_one : (keys : ℕ) (key : List ℕ) (i : ℕ) (rows : List Row) → live_with_key keys key (get_or rows i no_row) ≡ true → dies keys key i rows ≡ kill_at i rows
unfolding dies kill_at
dies_one keys key i [] e = refl
dies_one keys key zero (row ∷ rows) e = rw e
dies_one keys key (suc i) (row ∷ rows) e = ap (λ (rs : List Row). row ∷ rs) (dies_one keys key i rows e)

-- otherwise it removes nothing
pub dies_none : (keys : ℕ) (key : List ℕ) (i : ℕ) (rows : List Row) → live_with_key keys key (get_or rows i no_row) ≡ false → dies keys key i rows ≡ rows
unfolding dies
dies_none keys key i [] e = refl
dies_none keys key zero (row ∷ rows) e = rw e
dies_none keys key (suc i) (row ∷ rows) e = ap (λ (rs : List Row). row ∷ rs) (dies_none keys key i rows e)

-- ---- the rows after the death

-- their number is unchanged
pub length_kill_at : (i : ℕ) (rows : List Row) → length (kill_at i rows) ≡ length rows
unfolding kill_at
length_kill_at i rows = length-set rows i (dead_row (get_or rows i no_row))

-- their cells are unchanged
pub kill_at_cells : (i : ℕ) (rows : List Row) (j : ℕ) → (get_or (kill_at i rows) j no_row).cells ≡ (get_or rows j no_row).cells
unfolding kill_at
kill_at_cells i [] j = refl
kill_at_cells zero (row ∷ rows) zero = refl
kill_at_cells zero (row ∷ rows) (suc j) = refl
kill_at_cells (suc i) (row ∷ rows) zero = refl
kill_at_cells (suc i) (row ∷ rows) (suc j) = kill_at_cells i rows j

-- a row that is live was live before
pub kill_at_live : (i : ℕ) (rows : List Row) (j : ℕ) → (get_or (kill_at i rows) j no_row).live ≡ true → (get_or rows j no_row).live ≡ true
unfolding kill_at
kill_at_live i [] j e = e
kill_at_live zero (row ∷ rows) zero e = absurd (false≢true e)
kill_at_live zero (row ∷ rows) (suc j) e = e
kill_at_live (suc i) (row ∷ rows) zero e = e
kill_at_live (suc i) (row ∷ rows) (suc j) e = kill_at_live i rows j e

count_kill_at : (i : ℕ) (rows : List Row) → (get_or rows i no_row).live ≡ true → count (λ row. not row.live) (kill_at i rows) ≡ suc (count (λ row. not row.live) rows)
unfolding count kill_at
count_kill_at i [] e = absurd (false≢true e)
count_kill_at zero (row ∷ rows) e = rw e
count_kill_at (suc i) (row ∷ rows) e = elim (split row.live) [ inl q ↦ rw q (count_kill_at i rows e) | inr q ↦ rw q (ap suc (count_kill_at i rows e)) ]

-- if a live row dies, there is one more dead row
pub dead_kill_at : (p : Plain) (i : ℕ) → (get_or p.rows i no_row).live ≡ true → dead (with_rows p (kill_at i p.rows)) ≡ dead p + 1
unfolding dead
dead_kill_at p i e = rw add-one (count_kill_at i p.rows e)

-- the sort entries are unchanged
pub entries_kill_at : (p : Plain) (i : ℕ) → entries (with_rows p (kill_at i p.rows)) ≡ entries p
unfolding entries kill_at
entries_kill_at p i =
    ap rebuilt (map-set_same (λ (row : Row). get_or row.cells p.opening.sort 0) p.rows i (dead_row (get_or p.rows i no_row)) no_row refl)

-- ---- the row store

-- the rows as stored: that row has the dead mark, the others are unchanged
pub stored_kill_at : (i : ℕ) (rows : List Row) (before : List (List ℕ)) → i < length rows → i < length before
    → stored (kill_at i rows) before ≡ set (stored rows before) i (marked (get_or before i []))
unfolding stored kill_at
stored_kill_at i [] before h k = absurd (omega arith)
stored_kill_at i (row ∷ rows) [] h k = absurd (omega arith)
stored_kill_at zero (row ∷ rows) (old ∷ before) h k = refl
stored_kill_at (suc i) (row ∷ rows) (old ∷ before) h k =
    ap (λ (rs : List (List ℕ)). cond row.live row.cells (marked old) ∷ rs) (stored_kill_at i rows before (omega arith) (omega arith))

-- only the cell with the dead mark changes
pub marked_store : (w n i : ℕ) (store : List ℕ) → 0 < w → i < n → n * w ≤ length store
    → splice store 0 (flatten (set (rows_of w n store) i (marked (row_at w i store)))) ≡ set store (i * w) 4294967295
unfolding splice
marked_store w n i store some h k =
    let m : List ℕ = set store (i * w) 4294967295 in
    let j : n * w ≤ length m = simp length-set k in
    let c : i * w < 0 + length (take (n * w) m) = simp (length-take, length-set) (omega (arith, row_in i n w h)) in
    ap (λ (rows : List (List ℕ)). splice store 0 (flatten rows)) (sym (stale_rows w n i store some h))
    ∙ ap (splice store 0) (flatten_rows_of w n m)
    ∙ ap (λ (rest : List ℕ). take (n * w) m ++ rest) (sym (drop-set-lt (0 + length (take (n * w) m)) store (i * w) 4294967295 c))
    ∙ splice_front m (n * w) j

-- ---- the stores represent the table

-- the table in which row i is dead
abbrev pub dying : Plain → ℕ → Plain
dying p i = with_rows p (kill_at i p.rows)

kill_at_thinned : (i : ℕ) (rows : List Row) → Thinned rows (kill_at i rows)
unfolding kill_at
kill_at_thinned i [] = empty
kill_at_thinned zero (row ∷ rows) = died row (thinned_same rows)
kill_at_thinned (suc i) (row ∷ rows) = same_row_lem row (kill_at_thinned i rows)

pub dying_proper : {p : Plain} (i : ℕ) → Proper p → Proper (dying p i)
dying_proper {p} i h = thinned_proper h (kill_at_thinned i p.rows)

pub dying_later : (p : Plain) (i : ℕ) → Later p (dying p i)
dying_later p i =
    record {
      opening = refl;
      generation = refl;
      staged = refl;
      grows = omega (arith, length_kill_at i p.rows);
      cells = λ j h. kill_at_cells i p.rows j;
      dies = λ j h e. kill_at_live i p.rows j e;
    }

-- there is one more dead row
pub dying_header : (p : Plain) (i : ℕ) → (row_of p i).live ≡ true → header_of (dying p i) ≡ with_dead (header_of p) (dead p + 1)
dying_header p i e =
    let a = length_kill_at i p.rows in
    let b = dead_kill_at p i e in
    let c = ap length (entries_kill_at p i) in
    λ k. with_counts (header_of p) (a k) (b k) (c k) (header_of p).largest

module _ {p : Plain} {s : Stores} (r : Represents p s) (i : ℕ) (live : (row_of p i).live ≡ true) where
  below : i < s.header.rows
  below = omega (arith, rows_counted r, live_below_lem p.rows i live)

  columns_same : s.header.columns ≡ p.opening.columns
  columns_same = ap (λ (h : Header). h.columns) r.shown.header

  some_columns : 0 < s.header.columns
  some_columns = omega (arith, columns_same, (openable_bounds p.opening r.proper.numbers).columns_some)

  rows_long : s.header.rows * s.header.columns ≤ length s.rows
  rows_long = rw (rows_counted r, columns_same) (rows_in_lem r.proper (length s.rows) (represents_long r).rows_long)

  -- the rows as stored, with the dead mark in the dead row
  stored_dying : stored (kill_at i p.rows) (rows_of s.header.columns s.header.rows s.rows)
      ≡ set (rows_of s.header.columns s.header.rows s.rows) i (marked (row_at s.header.columns i s.rows))
  stored_dying =
      let before = rows_of s.header.columns s.header.rows s.rows in
      stored_kill_at i p.rows before (live_below_lem p.rows i live) (omega (arith, below, length_rows_of s.header.columns s.header.rows s.rows))
      ∙ ap₂ (λ (rows : List (List ℕ)) (row : List ℕ). set rows i (marked row)) (rows_stored r) (get_d_rows_of s.header.columns s.header.rows s.rows i below)

  -- one cell of the row store changes
  pub dying_rows : row_store (dying p i) (rows_of s.header.columns s.header.rows s.rows) s.rows ≡ set s.rows (i * s.header.columns) 4294967295
  unfolding row_store
  dying_rows =
      ap (λ (rows : List (List ℕ)). splice s.rows 0 (flatten rows)) stored_dying
      ∙ marked_store s.header.columns s.header.rows i s.rows some_columns below rows_long

  -- no cell of the sort-entry store changes
  pub dying_sorts : sort_store (dying p i) s.sorts ≡ s.sorts
  unfolding sort_store
  dying_sorts = ap (λ (es : List Entry). splice s.sorts 0 (entry_words es)) (entries_kill_at p i) ∙ sym (steps_refl r).sorts_after

  -- the row store represents the rows
  pub dying_shown : stored (kill_at i p.rows) (rows_of s.header.columns s.header.rows (set s.rows (i * s.header.columns) 4294967295))
      ≡ rows_of s.header.columns s.header.rows (set s.rows (i * s.header.columns) 4294967295)
  dying_shown =
      let e = stale_rows s.header.columns s.header.rows i s.rows some_columns below ∙ sym stored_dying in
      rw e (stored_again (kill_at i p.rows) (rows_of s.header.columns s.header.rows s.rows))

  -- with the row marked dead and a key store that refers to the other rows, the stores represent the table
  pub dying_represents : (keys : List ℕ) → 2 * s.header.capacity ≤ length keys
      → KeysSound (index_shape_of s.header) (set s.rows (i * s.header.columns) 4294967295) keys
      → Represents (dying p i) (stores (with_dead s.header (s.header.dead + 1)) (set s.rows (i * s.header.columns) 4294967295) keys s.sorts s.pending)
  dying_represents keys long sound =
      let rows : List ℕ = set s.rows (i * s.header.columns) 4294967295 in
      let g = represents_long r in
      let n : s.header.capacity ≡ p.opening.capacity = ap (λ (h : Header). h.capacity) r.shown.header in
      let header : with_dead s.header (s.header.dead + 1) ≡ header_of (dying p i) = rw r.shown.header (sym (dying_header p i live)) in
      let fit : p.opening.capacity * p.opening.columns ≤ length rows = simp length-set g.rows_long in
      record {
        proper = dying_proper i r.proper;
        long_enough =
            long_stores p.opening (lengths rows keys s.sorts s.pending [] [])
            (record { rows_long = fit; keys_long = omega arith; sorts_long = g.sorts_long });
        shown =
            record {
              header = header;
              rows_shown = checked_rows_stored (with_dead s.header (s.header.dead + 1)) rows (dying_proper i r.proper) fit header dying_shown;
              entries_shown = r.shown.entries_shown ∙ sym (entries_kill_at p i);
              pending_held = r.shown.pending_held;
            };
        keys_sound = sound;
      }

  pub dying_steps : (keys : List ℕ) → 2 * s.header.capacity ≤ length keys
      → KeysSound (index_shape_of s.header) (set s.rows (i * s.header.columns) 4294967295) keys
      → Becomes p (dying p i) s (stores (with_dead s.header (s.header.dead + 1)) (set s.rows (i * s.header.columns) 4294967295) keys s.sorts s.pending)
  dying_steps keys long sound =
      record {
        later = dying_later p i;
        rows_after = sym dying_rows;
        sorts_after = sym dying_sorts;
        represents = dying_represents keys long sound;
      }

-- ---- which row a removal removes, in terms of the stores

module _ {p : Plain} {s : Stores} (r : Represents p s) (key : List ℕ) where
  -- a removal by key removes it
  pub without_key_one : (i : ℕ) → LiveAt (index_shape_of s.header) s.rows i → key_at (index_shape_of s.header) s.rows i ≡ key → without_key p (remove_key key) ≡ dying p i
  unfolding without_key
  without_key_one i l e = ap (with_rows p) (kill_if_one p.opening.keys key p.rows i (keys_distinct_of p.opening.keys p.rows r.proper.keys_differ) (live_passes r key i l e))

  -- so does a removal by its row number
  pub without_row_one : (i : ℕ) → LiveAt (index_shape_of s.header) s.rows i → key_at (index_shape_of s.header) s.rows i ≡ key → without_row p (remove_row i key) ≡ dying p i
  unfolding without_row
  without_row_one i l e = ap (with_rows p) (dies_one p.opening.keys key i p.rows (live_passes r key i l e))

  -- a removal by another row number removes nothing
  pub without_row_other : (i j : ℕ) → LiveAt (index_shape_of s.header) s.rows i → key_at (index_shape_of s.header) s.rows i ≡ key → (i ≡ j → ⊥)
      → without_row p (remove_row j key) ≡ p
  unfolding without_row
  without_row_other i j l e ne =
      let k : ℕ = p.opening.keys in
      let q = live_passes r key i l e in
      elim (split (live_with_key k key (row_of p j))) [
        | inl f ↦
            absurd
            (ne
            (r.proper.keys_differ i j (live_with_key_live k key (row_of p i) q) (live_with_key_live k key (row_of p j) f)
            (live_with_key_key k key (row_of p i) q ∙ sym (live_with_key_key k key (row_of p j) f))))
        | inr f ↦ ap (with_rows p) (dies_none k key j p.rows f)
      ]

  module _ (none : (i : ℕ) → LiveAt (index_shape_of s.header) s.rows i → key_at (index_shape_of s.header) s.rows i ≡ key → ⊥) where
    -- if the stores have no live row with the key, the plain table has none
    pub key_free : (i : ℕ) → live_with_key p.opening.keys key (row_of p i) ≡ false
    key_free i =
        let k : ℕ = p.opening.keys in
        elim (split (live_with_key k key (row_of p i))) [
          | inl e ↦ let g = passes_live r key i e in absurd (none i g.0 g.1)
          | inr e ↦ e
        ]

    -- then a removal by key or by row removes nothing
    pub without_key_none : without_key p (remove_key key) ≡ p
    unfolding without_key
    without_key_none = ap (with_rows p) (kill_if_none p.opening.keys key p.rows (all_of (free_row p.opening.keys key) no_row p.rows (λ i h. rw (key_free i))))

    pub without_row_none : (i : ℕ) → without_row p (remove_row i key) ≡ p
    unfolding without_row
    without_row_none i = ap (with_rows p) (dies_none p.opening.keys key i p.rows (key_free i))

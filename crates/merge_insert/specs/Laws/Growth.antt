-- A row is appended to the rows of a plain table, of which one may have died: the stores after that, and that they represent the
-- table with the row. Assumes nothing.
use Rattle.std.specs.Prelude.{◌+◌, ◌*◌, ◌≤◌, ◌<◌, ◌≡◌, ◌∷◌, ◌++◌}
use Rattle.merge_insert.specs.Laws.Prelude.{ℕ, refl, sym, ap, ap₂, ◌∙◌, true, cond, not, List, [], map, append-nil, map-append, add-zero, suc-mul, add-one, arith, length, take, drop, get_or, set, length-append, length-map, length-set, List·getD-append, drop-drop, drop-set-lt, count_append, length_splice, splice_start, row_in, length_rows_of, get_d_rows_of, rows_of_appended, flatten_rows_of, flatten_append, KeysSound, stale_rows, Entry, entries_of, entry_words, rebuilt, push, rebuilt_snoc, length_entries_of, Proper, row_of, no_row, live_row, live_below_lem, raised_same, openable_bounds, Header, Some, index_shape_of, Stores, stores, lengths, Represents, Later, Becomes, with_counts, Entered, grown_to, largest_view_largest_of, stored_again, long_stores, checked_rows_stored, represents_long, rows_stored, rows_counted, kill_at, length_kill_at, kill_at_cells, kill_at_live, entries_kill_at, stored_kill_at}
use Rattle.lists.specs.Lists.{splice, count, rows_of, flatten}
use Rattle.plain_table.specs.Plain.{Row, Plain, with_rows, with_row, dead}
use Rattle.table.specs.Numbers.{largest_of}
use Rattle.table.specs.Stores.{entries, header_of, marked, stored, row_store, sort_store}
use Rattle.merge_insert.specs.Laws.Admission.{free_above}

-- ---- one more row

-- as stored
pub stored_snoc : (rows : List Row) (cells : List ℕ) (before : List (List ℕ)) → length before ≡ length rows
    → stored (rows ++ (live_row cells ∷ [])) before ≡ stored rows before ++ (cells ∷ [])
unfolding stored
stored_snoc [] cells [] n = refl
stored_snoc [] cells (old ∷ before) n = absurd (omega arith)
stored_snoc (row ∷ rows) cells [] n = absurd (omega arith)
stored_snoc (row ∷ rows) cells (old ∷ before) n =
    ap (λ (rs : List (List ℕ)). cond row.live row.cells (marked old) ∷ rs) (stored_snoc rows cells before (omega arith))

-- its sort entry
pub entries_snoc : (p : Plain) (rows : List Row) (cells : List ℕ)
    → entries (with_row p rows cells) ≡ push (get_or cells p.opening.sort 0) (length rows) (entries (with_rows p rows))
unfolding entries
entries_snoc p rows cells =
    let sorts : Row → ℕ = λ row. get_or row.cells p.opening.sort 0 in
    ap rebuilt (map-append sorts rows (live_row cells ∷ []))
    ∙ rebuilt_snoc (map sorts rows) (get_or cells p.opening.sort 0)
    ∙ ap (λ (n : ℕ). push (get_or cells p.opening.sort 0) n (rebuilt (map sorts rows))) (length-map rows sorts)

-- the number of dead rows is unchanged
pub dead_snoc : (p : Plain) (rows : List Row) (cells : List ℕ) → dead (with_row p rows cells) ≡ dead (with_rows p rows)
unfolding dead
dead_snoc p rows cells =
    count_append (λ (row : Row). not row.live) rows (live_row cells ∷ [])
    ∙ unfold count in add-zero (count (λ (row : Row). not row.live) rows)

-- ---- the rows before it

-- the rows, some of which may have died, and the row store with the dead ones marked
pub record Prepared (p : Plain) (s : Stores) (kept : List Row) (base : List ℕ) : Type 0 where
  pub count_same : length kept ≡ length p.rows
  pub cells_same : (i : ℕ) → (get_or kept i no_row).cells ≡ (get_or p.rows i no_row).cells
  pub was_live : (i : ℕ) → (get_or kept i no_row).live ≡ true → (get_or p.rows i no_row).live ≡ true
  pub entries_same : entries (with_rows p kept) ≡ entries p
  pub rows_same : rows_of s.header.columns s.header.rows base ≡ stored kept (rows_of s.header.columns s.header.rows s.rows)
  pub past : drop (s.header.rows * s.header.columns) base ≡ drop (s.header.rows * s.header.columns) s.rows
  pub long : length base ≡ length s.rows

module _ {p : Plain} {s : Stores} (r : Represents p s) where
  columns_same : s.header.columns ≡ p.opening.columns
  columns_same = ap (λ (h : Header). h.columns) r.shown.header

  capacity_same : s.header.capacity ≡ p.opening.capacity
  capacity_same = ap (λ (h : Header). h.capacity) r.shown.header

  some_columns : 0 < s.header.columns
  some_columns = omega (arith, columns_same, (openable_bounds p.opening r.proper.numbers).columns_some)

  -- all rows are unchanged
  pub prepared_same : Prepared p s p.rows s.rows
  unfolding entries
  prepared_same =
      record {
        count_same = refl;
        cells_same = λ i. refl;
        was_live = λ i e. e;
        entries_same = refl;
        rows_same = sym (rows_stored r);
        past = refl;
        long = refl;
      }

  -- one row has died
  pub prepared_dead : (i : ℕ) → (row_of p i).live ≡ true → Prepared p s (kill_at i p.rows) (set s.rows (i * s.header.columns) 4294967295)
  prepared_dead i live =
      let w : ℕ = s.header.columns in
      let n : ℕ = s.header.rows in
      let below : i < n = omega (arith, rows_counted r, live_below_lem p.rows i live) in
      let before : List (List ℕ) = rows_of w n s.rows in
      record {
        count_same = length_kill_at i p.rows;
        cells_same = kill_at_cells i p.rows;
        was_live = kill_at_live i p.rows;
        entries_same = entries_kill_at p i;
        rows_same =
            stale_rows w n i s.rows some_columns below
            ∙ sym (stored_kill_at i p.rows before (live_below_lem p.rows i live) (omega (arith, below, length_rows_of w n s.rows))
            ∙ ap₂ (λ (rows : List (List ℕ)) (row : List ℕ). set rows i (marked row)) (rows_stored r) (get_d_rows_of w n s.rows i below));
        past = drop-set-lt (n * w) s.rows (i * w) 4294967295 (omega (arith, row_in i n w below, some_columns));
        long = length-set s.rows (i * w) 4294967295;
      }

  -- the row and those before it are within the store
  pub row_fits_lem : s.header.rows < s.header.capacity → s.header.rows * s.header.columns + s.header.columns ≤ length s.rows
  row_fits_lem room =
      omega (arith, row_in s.header.rows s.header.capacity s.header.columns room, rw (← capacity_same, ← columns_same) at (represents_long r).rows_long)

-- ---- the stores with the row

module _ {p : Plain} {s : Stores} (r : Represents p s) {kept : List Row} {base : List ℕ} (q : Prepared p s kept base) (cells : List ℕ)
    (width : length cells ≡ s.header.columns) (room : s.header.rows < s.header.capacity) where
  stored_grown : stored (kept ++ (live_row cells ∷ [])) (rows_of s.header.columns s.header.rows s.rows)
      ≡ rows_of s.header.columns s.header.rows base ++ (cells ∷ [])
  stored_grown =
      stored_snoc kept cells _ (length_rows_of s.header.columns s.header.rows s.rows ∙ rows_counted r ∙ sym q.count_same)
      ∙ ap (λ (rs : List (List ℕ)). rs ++ (cells ∷ [])) (sym q.rows_same)

  flat_grown : flatten (rows_of s.header.columns s.header.rows base ++ (cells ∷ [])) ≡ take (s.header.rows * s.header.columns) base ++ cells
  flat_grown =
      flatten_append (rows_of s.header.columns s.header.rows base) (cells ∷ [])
      ∙ ap₂ (λ (a b : List ℕ). a ++ b) (flatten_rows_of s.header.columns s.header.rows base) (unfold flatten in append-nil cells)

  past_row : drop (s.header.rows * s.header.columns + length cells) s.rows ≡ drop (s.header.rows * s.header.columns + length cells) base
  past_row =
      sym (drop-drop (length cells) (s.header.rows * s.header.columns) s.rows)
      ∙ ap (drop (length cells)) (sym q.past)
      ∙ drop-drop (length cells) (s.header.rows * s.header.columns) base

  -- in the row store only the row's cells change
  pub grown_store : row_store (with_row p kept cells) (rows_of s.header.columns s.header.rows s.rows) s.rows
      ≡ splice base (s.header.rows * s.header.columns) cells
  unfolding row_store
  grown_store =
      ap (λ (rs : List (List ℕ)). splice s.rows 0 (flatten rs)) stored_grown
      ∙ ap (splice s.rows 0) flat_grown
      ∙ splice_start s.rows base cells (s.header.rows * s.header.columns) (omega (arith, row_fits_lem r room, q.long)) past_row

  rows_grown : rows_of s.header.columns (s.header.rows + 1) (splice base (s.header.rows * s.header.columns) cells)
      ≡ stored (kept ++ (live_row cells ∷ [])) (rows_of s.header.columns s.header.rows s.rows)
  rows_grown =
      let k : (s.header.rows + 1) * s.header.columns ≤ length base = rw (add-one, suc-mul) (omega (arith, row_fits_lem r room, q.long)) in
      rows_of_appended s.header.columns s.header.rows base cells width k ∙ sym stored_grown

  -- the row store represents the rows
  grown_shown : stored (kept ++ (live_row cells ∷ [])) (rows_of s.header.columns (s.header.rows + 1) (splice base (s.header.rows * s.header.columns) cells))
      ≡ rows_of s.header.columns (s.header.rows + 1) (splice base (s.header.rows * s.header.columns) cells)
  grown_shown = rw rows_grown (stored_again (kept ++ (live_row cells ∷ [])) (rows_of s.header.columns s.header.rows s.rows))

  -- the sort entries include the row's
  grown_entries : entries (with_row p kept cells) ≡ push (get_or cells s.header.sort 0) s.header.rows (entries_of s.header.entries s.sorts)
  grown_entries =
      let sort_same : p.opening.sort ≡ s.header.sort = sym (ap (λ (h : Header). h.sort) r.shown.header) in
      entries_snoc p kept cells
      ∙ rw (q.entries_same, q.count_same, ← rows_counted r, r.shown.entries_shown, sort_same)

  grown_later : Later p (with_row p kept cells)
  grown_later =
      let n = q.count_same in
      record {
        opening = refl;
        generation = refl;
        staged = refl;
        grows = simp length-append (omega (arith, n));
        cells = λ i h. ap (λ (row : Row). row.cells) (List·getD-append kept (live_row cells ∷ []) no_row i (omega (arith, n))) ∙ q.cells_same i;
        dies = λ i h e. q.was_live i (ap (λ (row : Row). row.live) (sym (List·getD-append kept (live_row cells ∷ []) no_row i (omega (arith, n)))) ∙ e);
      }

  module _ (n : ℕ) (sorts' : List ℕ) (entered : Entered s.header s.sorts (get_or cells s.header.sort 0) n sorts') where
    entries_grown : entries_of n sorts' ≡ entries (with_row p kept cells)
    entries_grown = entered.entries ∙ sym grown_entries

    -- its sort value is the largest
    grown_largest : Some (get_or cells s.header.sort 0) ≡ (header_of (with_row p kept cells)).largest
    unfolding largest_of
    grown_largest =
        let value : ℕ = get_or cells p.opening.sort 0 in
        let above = rw (r.shown.header, largest_view_largest_of p.largest) at (free_above s.header (get_or cells s.header.sort 0) entered.free) in
        rw r.shown.header (ap Some (sym (raised_same value p.largest above)))

    grown_header : grown_to s.header (dead (with_rows p kept)) n (get_or cells s.header.sort 0) ≡ header_of (with_row p kept cells)
    grown_header =
        let a : s.header.rows + 1 ≡ length (kept ++ (live_row cells ∷ [])) = simp length-append (omega (arith, rows_counted r, q.count_same)) in
        let b = sym (dead_snoc p kept cells) in
        let c = sym (length_entries_of n sorts') ∙ ap length entries_grown in
        let e = r.shown.header in
        let l = grown_largest in
        λ k. with_counts (e k) (a k) (b k) (c k) (l k)

    -- the stores of p have become those of the table with the row
    pub grown_steps : Proper (with_row p kept cells) → (d : ℕ) → d ≡ dead (with_rows p kept) → (rows' : List ℕ)
        → rows' ≡ splice base (s.header.rows * s.header.columns) cells
        → (keys' : List ℕ) → length keys' ≡ length s.keys → KeysSound (index_shape_of (grown_to s.header d n (get_or cells s.header.sort 0))) rows' keys'
        → Becomes p (with_row p kept cells) s (stores (grown_to s.header d n (get_or cells s.header.sort 0)) rows' keys' sorts' s.pending)
    unfolding sort_store
    grown_steps proper d dead_is rows' rows_is keys' keys_same sound =
        let long = represents_long r in
        let rows_same : length rows' ≡ length s.rows =
        ap length rows_is ∙ length_splice base cells (s.header.rows * s.header.columns) (omega (arith, row_fits_lem r room, q.long, width)) ∙ q.long in
        record {
          later = grown_later;
          rows_after = rows_is ∙ sym grown_store;
          sorts_after = entered.cells ∙ ap (λ (es : List Entry). splice s.sorts 0 (entry_words es)) (sym grown_entries);
          represents =
              record {
                proper = proper;
                long_enough =
                    long_stores p.opening (lengths rows' keys' sorts' s.pending [] [])
                    (record {
                      rows_long = rw rows_same long.rows_long;
                      keys_long = rw keys_same long.keys_long;
                      sorts_long = rw entered.same long.sorts_long;
                    });
                shown =
                    record {
                      header = rw dead_is grown_header;
                      rows_shown = checked_rows_stored (grown_to s.header d n (get_or cells s.header.sort 0)) rows' proper (rw rows_same long.rows_long) (rw dead_is grown_header) (rw rows_is grown_shown);
                      entries_shown = entries_grown;
                      pending_held = r.shown.pending_held;
                    };
                keys_sound = sound;
              };
        }

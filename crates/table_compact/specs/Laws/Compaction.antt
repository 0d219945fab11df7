-- Laws of a compaction: how the live rows of a store move down row by row, their sort entries and the words that number them; and
-- that the resulting stores represent the compacted plain table. Assumes nothing.
use Rattle.std.specs.Prelude.{◌+◌, ◌-◌, ◌*◌, ◌/◌, ◌%◌, ◌≤◌, ◌<◌, ◌≡◌, ◌∷◌, ◌++◌}
use Rattle.table_compact.specs.Laws.Prelude.{ℕ, zero, suc, min, suc-le-suc, refl, sym, ap, ap₂, ◌∙◌, inl, inr, Bool, true, false, cond, List, [], map, map-append, map-map, append-nil, add-zero, suc-mul, mul-le-mul_right, add-one, ℕ_discrete, arith, length, get_or, set, length-map, get_or-set_same, get_or-set_other, ltb, split, filter_append, length_filter, count_le, all_filter, length_splice, splice_then, part_after, widths, length_rows_of, length_row_at, rows_of_snoc, rows_of_widths, widths_filter, length_flatten, flatten_append, get_d_rows_of, rows_of_put_flatten, is_live, Entry, entry, entries_of, entry_words, rebuilt, Append, last_passes, push, push_new, push_same, rebuilt_snoc, rebuilt_few, length_words, words_snoc, entries_of_put, live_word, new_number, number_rank, filter_at, LiveAt, KeysSound, Fits, small, past_size_class, below_number, live_among, live_rises, Compacted, renumber_sound, slots_renumbered, no_row, compacted_proper, dead_compacted, Header, KeptCounts, index_shape_of, stores, lengths, Represents, SamePast, full_shape_fits, Lendable, KeysUpdated, ClosedUp, Compaction, stored_live, Proper, stores_long, checked_rows_stored, rows_counted, row_shown}
use Rattle.lists.specs.Lists.{splice, filter, row_at, rows_of, flatten}
use Rattle.key_rebuild.specs.inner.Renumbering.{live_below, Renumbered, new_row}
use Rattle.plain_table.specs.Plain.{Row, Plain, compacted}
use Rattle.plain_table.specs.Refusing.{stores_short}
use Rattle.table.specs.Stores.{entries, header_of, stored, row_store, sort_store, Shows, RowShown}
use Rattle.table_compact.specs.inner.ClosingUp.{live_stored, entries_for, closed_rows, Closed, closed_header}

-- ---- the live rows move down

module _ (w n : ℕ) (rows : List ℕ) where
  -- there are at most as many live rows as rows
  pub length_live : length (live_stored w n rows) ≤ n
  unfolding live_stored
  length_live = omega (arith, length_filter is_live (rows_of w n rows), count_le is_live (rows_of w n rows), length_rows_of w n rows)

  live_more : live_stored w (n + 1) rows ≡ live_stored w n rows ++ filter is_live (row_at w n rows ∷ [])
  unfolding live_stored
  live_more = ap (filter is_live) (rows_of_snoc w n rows) ∙ filter_append is_live (rows_of w n rows) (row_at w n rows ∷ [])

  -- one more row: live, or dead
  pub live_one : is_live (row_at w n rows) ≡ true → live_stored w (n + 1) rows ≡ live_stored w n rows ++ (row_at w n rows ∷ [])
  unfolding filter
  live_one e = live_more ∙ rw e

  live_none : is_live (row_at w n rows) ≡ false → live_stored w (n + 1) rows ≡ live_stored w n rows
  unfolding filter
  live_none e = live_more ∙ rw e (append-nil (live_stored w n rows))

-- several more rows, all dead
pub live_skip : (w n k : ℕ) (rows : List ℕ) → ((i : ℕ) → n ≤ i → i < n + k → is_live (row_at w i rows) ≡ false) → live_stored w (n + k) rows ≡ live_stored w n rows
live_skip w n zero rows dead = rw add-zero
live_skip w n (suc k) rows dead =
    let e : n + suc k ≡ n + k + 1 = omega arith in
    let low : n ≤ n + k = omega arith in
    rw e (live_none w (n + k) rows (dead (n + k) low (omega arith)) ∙ live_skip w n k rows (λ i p q. dead i p (omega arith)))

module _ (w n : ℕ) (rows : List ℕ) (fits : n * w ≤ length rows) where
  -- each has the width of a row
  pub widths_live : widths w (live_stored w n rows) ≡ true
  unfolding live_stored
  widths_live = widths_filter w is_live (rows_of w n rows) (rows_of_widths w n rows fits)

  flat_live : length (flatten (live_stored w n rows)) ≡ length (live_stored w n rows) * w
  flat_live = length_flatten w (live_stored w n rows) widths_live

  -- their cells end at or below the end of the rows
  pub flat_below : length (flatten (live_stored w n rows)) ≤ n * w
  flat_below = omega (arith, flat_live, mul-le-mul_right w (length_live w n rows))

-- a later row is unchanged after the live rows before row n have moved down
pub later_row : (w n i : ℕ) (rows : List ℕ) → n ≤ i → i * w + w ≤ length rows → row_at w i (splice rows 0 (flatten (live_stored w n rows))) ≡ row_at w i rows
unfolding row_at
later_row w n i rows h fits =
    let m : n * w ≤ i * w = mul-le-mul_right w h in
    let b = flat_below w n rows (omega arith) in
    part_after rows (flatten (live_stored w n rows)) 0 (omega arith) (i * w) w (omega arith)

module _ (w n : ℕ) (rows : List ℕ) (fits : n * w + w ≤ length rows) where
  below : length (flatten (live_stored w n rows)) ≤ n * w
  below = flat_below w n rows (omega arith)

  -- a live row is moved to their end
  pub close_one : is_live (row_at w n rows) ≡ true
      → splice (splice rows 0 (flatten (live_stored w n rows))) (length (live_stored w n rows) * w) (row_at w n rows) ≡ splice rows 0 (flatten (live_stored w (n + 1) rows))
  unfolding flatten
  close_one e =
      let lv = live_stored w n rows in
      let row = row_at w n rows in
      let wide : length row ≡ w = length_row_at w n rows (rw (add-one, suc-mul) fits) in
      let end : length lv * w ≡ 0 + length (flatten lv) = omega (arith, flat_live w n rows (omega arith)) in
      rw (end, live_one w n rows e, flatten_append lv (row ∷ []), append-nil row)
      (splice_then rows (flatten lv) row 0 (omega (arith, below)))

-- ---- their sort entries

-- the entries with one more row
pub entries_one : (sort : ℕ) (rows : List (List ℕ)) (row : List ℕ) → entries_for sort (rows ++ (row ∷ [])) ≡ push (get_or row sort 0) (length rows) (entries_for sort rows)
unfolding entries_for
entries_one sort rows row =
    ap rebuilt (map-append (λ (r : List ℕ). get_or r sort 0) rows (row ∷ []))
    ∙ rebuilt_snoc (map (λ (r : List ℕ). get_or r sort 0) rows) (get_or row sort 0)
    ∙ ap (λ (k : ℕ). push (get_or row sort 0) k (rebuilt (map (λ (r : List ℕ). get_or r sort 0) rows))) (length-map rows (λ (r : List ℕ). get_or r sort 0))

-- there are at most as many entries as rows
pub entries_at_most : (sort : ℕ) (rows : List (List ℕ)) → length (entries_for sort rows) ≤ length rows
unfolding entries_for
entries_at_most sort rows = omega (arith, rebuilt_few (map (λ (r : List ℕ). get_or r sort 0) rows), length-map rows (λ (r : List ℕ). get_or r sort 0))

-- a store of rebuilt entries with one more row
module _ (sorts : List ℕ) (es : List Entry) (fits : 2 * length es + 2 ≤ length sorts) (value row : ℕ) where
  rebuilt_words : (b : Bool) → last_passes (λ v. ltb v value) es ≡ b
      → cond b (splice (splice sorts 0 (entry_words es)) (2 * length es) (value ∷ row ∷ [])) (splice sorts 0 (entry_words es)) ≡ splice sorts 0 (entry_words (push value row es))
  rebuilt_words true e =
      let end : 2 * length es ≡ 0 + length (entry_words es) = omega (arith, length_words es) in
      rw (end, push_new value row es e, words_snoc es (entry value row))
      (splice_then sorts (entry_words es) (value ∷ row ∷ []) 0 (omega (arith, length_words es)))
  rebuilt_words false e = rw (push_same value row es e)

  pub rebuild_one : (n r : ℕ) (after : List ℕ) → n ≡ length es → Append (splice sorts 0 (entry_words es)) n value row r after
      → (r ≡ length (push value row es)) × (after ≡ splice sorts 0 (entry_words (push value row es)))
  rebuild_one n r after e b =
      let held : entries_of n (splice sorts 0 (entry_words es)) ≡ es = entries_of_put es sorts n e in
      (b.count ∙ ap (λ (l : List Entry). length (push value row l)) held, rw (held, e) at b.cells ∙ rebuilt_words (last_passes (λ v. ltb v value) es) refl)

-- ---- the words that number the rows

-- the words whose first row is below m are the bitmap of the live rows among n rows
pub record Words (rows : List (List ℕ)) (n m : ℕ) (live base : List ℕ) : Type 0 where
  pub bitmap_word : (k : ℕ) → k * 64 < m → get_or live k 0 ≡ live_word is_live rows (k * 64) (min 64 (n - k * 64))
  pub firsts : (k : ℕ) → k * 64 < m → get_or base k 0 ≡ new_number is_live rows (k * 64)

pub words_begin : (rows : List (List ℕ)) (n : ℕ) (live base : List ℕ) → Words rows n 0 live base
words_begin rows n live base = record { bitmap_word = λ k h. absurd (omega arith); firsts = λ k h. absurd (omega arith) }

-- the next word
pub words_next : (rows : List (List ℕ)) (n m : ℕ) (live base : List ℕ) (word kept : ℕ) → Words rows n m live base → m % 64 ≡ 0 → m / 64 < length live → m / 64 < length base
    → word ≡ live_word is_live rows m (min 64 (n - m)) → kept ≡ new_number is_live rows m
    → Words rows n (m + min 64 (n - m)) (set live (m / 64) word) (set base (m / 64) kept)
words_next rows n m live base word kept s start live_in base-in e f =
    record {
      bitmap_word = λ k h. elim (ℕ_discrete (m / 64) k) [
        | yes q ↦ let z : k * 64 ≡ m = omega arith in rw (z, ← e, ← q) (get_or-set_same live (m / 64) word 0 live_in)
        | no q ↦ get_or-set_other live (m / 64) k word 0 (omega arith) ∙ s.bitmap_word k (omega arith)
      ];
      firsts = λ k h. elim (ℕ_discrete (m / 64) k) [
        | yes q ↦ let z : k * 64 ≡ m = omega arith in rw (z, ← f, ← q) (get_or-set_same base (m / 64) kept 0 base-in)
        | no q ↦ get_or-set_other base (m / 64) k kept 0 (omega arith) ∙ s.firsts k (omega arith)
      ];
    }

-- the row numbers that the words give
pub words_number : (rows : List (List ℕ)) (n : ℕ) (live base : List ℕ) → Words rows n n live base → (i : ℕ) → i < n → new_row live base i ≡ new_number is_live rows i
unfolding new_row
words_number rows n live base s i h =
    let b : i % 64 ≤ min 64 (n - i / 64 * 64) = omega arith in
    let e : i / 64 * 64 + i % 64 ≡ i = omega arith in
    rw (s.firsts (i / 64) (omega arith), s.bitmap_word (i / 64) (omega arith))
    (number_rank is_live rows (i / 64 * 64) (min 64 (n - i / 64 * 64)) (i % 64) b ∙ ap (new_number is_live rows) e)

-- ---- the stores of a compacted plain table

-- the live rows of a plain table, as they are stored
pub live_cells_of : (ps : List Row) (rows : List (List ℕ)) → length rows ≡ length ps → ((i : ℕ) → i < length ps → RowShown (get_or ps i no_row) (get_or rows i []))
    → filter is_live rows ≡ map (λ row. row.cells) (filter (λ row. row.live) ps)
unfolding filter
live_cells_of [] [] n f = refl
live_cells_of [] (row ∷ rows) n f = absurd (omega arith)
live_cells_of (p ∷ ps) [] n f = absurd (omega arith)
live_cells_of (p ∷ ps) (row ∷ rows) n f =
    let ih = live_cells_of ps rows (omega arith) (λ i h. f (suc i) (suc-le-suc h)) in
    let s = f 0 (omega arith) in
    elim (split p.live) [
      | inl e ↦ rw (← s.live, e, ih, s.same e)
      | inr e ↦ rw (← s.live, e, ih)
    ]

module _ (h : Header) (rows sorts live base : List ℕ) (kept : KeptCounts) (rows' sorts' live' base' : List ℕ) (c : Closed h rows sorts live base kept rows' sorts' live' base')
    (fits : h.rows * h.columns ≤ length rows) where
  closed_fits : 0 + length (flatten (closed_rows h rows)) ≤ length rows
  closed_fits = omega (arith, flat_below h.columns h.rows rows fits)

  -- the rows after the compaction are the live ones
  closed_read : rows_of h.columns kept.rows rows' ≡ closed_rows h rows
  closed_read =
      rw (c.rows_counted, c.rows_after)
      (rows_of_put_flatten h.columns (closed_rows h rows) rows (widths_live h.columns h.rows rows fits))

  closed_count : kept.rows ≡ live_below (index_shape_of h) rows h.rows
  unfolding live_stored
  closed_count = c.rows_counted ∙ length_filter is_live (rows_of h.columns h.rows rows)

  -- each row is at its new number
  closed_moved : (i : ℕ) → LiveAt (index_shape_of h) rows i → row_at h.columns (live_below (index_shape_of h) rows i) rows' ≡ row_at h.columns i rows
  unfolding live_stored
  closed_moved i l =
      let t = index_shape_of h in
      let new = live_below t rows i in
      let k : new < kept.rows = omega (arith, closed_count, live_rises t rows i h.rows l.1 l.0) in
      sym (get_d_rows_of h.columns kept.rows rows' new k)
      ∙ ap₂ (λ (rs : List (List ℕ)) (n : ℕ). get_or rs n []) closed_read (below_number t rows h.rows i (omega (arith, l.0)))
      ∙ filter_at is_live (rows_of h.columns h.rows rows) i [] (live_among t rows h.rows i l.0 ∙ l.1)
      ∙ get_d_rows_of h.columns h.rows rows i l.0

  -- so the key store refers to the rows by their new numbers
  closed_numbers : (index_shape_of (closed_header h kept)).room ≡ (index_shape_of h).room → Compacted (index_shape_of h) rows (index_shape_of (closed_header h kept)) rows'
  closed_numbers room-same =
      record {
        columns = refl;
        keys = refl;
        room = room-same;
        count = closed_count;
        moved = closed_moved;
      }

module _ (h : Header) (rows keys sorts live base : List ℕ) (lent : Lendable h rows keys sorts live base) (kept : KeptCounts) (rows' sorts' live' base' : List ℕ)
    (c : Closed h rows sorts live base kept rows' sorts' live' base') (keys' : List ℕ) (same_keys : length keys' ≡ length keys)
    (led : KeysUpdated h (closed_header h kept) rows' keys live' base' keys') where
  rows_fit : h.rows * h.columns ≤ length rows
  rows_fit = omega (arith, lent.fits.cells, mul-le-mul_right h.columns lent.fits.count)

  same_rows : length rows' ≡ length rows
  same_rows = rw c.rows_after (length_splice rows (flatten (closed_rows h rows)) 0 (closed_fits h rows sorts live base kept rows' sorts' live' base' c rows_fit))

  same_sorts : length sorts' ≡ length sorts
  same_sorts =
      let es = entries_for h.sort (closed_rows h rows) in
      rw c.sorts_after
      (length_splice sorts (entry_words es) 0
      (omega (arith, length_words es, entries_at_most h.sort (closed_rows h rows), length_live h.columns h.rows rows, lent.fits.count, lent.sorts_long)))

  fits : Fits (index_shape_of h) rows keys
  fits = full_shape_fits h rows keys lent.fits

  -- with the same number of slots, the slots have the new numbers
  renumbered_keys : (index_shape_of (closed_header h kept)).room ≡ (index_shape_of h).room → Renumbered (index_shape_of h) rows keys keys'
  renumbered_keys e = rw (led.numbers e) (slots_renumbered (index_shape_of h) rows keys live' base' (small (index_shape_of h) rows keys fits) fits.long c.numbered)

  -- in both cases the key store refers to the remaining rows, and no slot past it is written
  keyed_after : KeysSound (index_shape_of h) rows keys → KeysSound (index_shape_of (closed_header h kept)) rows' keys'
  keyed_after sound = elim (ℕ_discrete (index_shape_of (closed_header h kept)).room (index_shape_of h).room) [
    | yes e ↦ renumber_sound (index_shape_of h) rows (index_shape_of (closed_header h kept)) rows' (closed_numbers h rows sorts live base kept rows' sorts' live' base' c rows_fit e)
        keys keys' (small (index_shape_of h) rows keys fits) sound (renumbered_keys e)
    | no ne ↦ (led.rebuilt_keys ne).sound
  ]

  past_after : SamePast (2 * h.capacity) keys keys'
  past_after = elim (ℕ_discrete (index_shape_of (closed_header h kept)).room (index_shape_of h).room) [
    | yes e ↦ past_size_class h.capacity h.rows keys keys' (renumbered_keys e).rest
    | no ne ↦ past_size_class h.capacity kept.rows keys keys' (led.rebuilt_keys ne).rest
  ]

  module _ (pending : List ℕ) (p : Plain) (r : Represents p (stores h rows keys sorts pending)) (g : h.generation < 4294967295) where
    -- the live rows are those of the plain table
    kept_rows : closed_rows h rows ≡ map (λ row. row.cells) (compacted p).rows
    unfolding live_stored compacted
    kept_rows =
        live_cells_of p.rows (rows_of h.columns h.rows rows) (length_rows_of h.columns h.rows rows ∙ rows_counted r)
        (λ i k. rw (get_d_rows_of h.columns h.rows rows i (omega (arith, rows_counted r))) (row_shown r i k))

    kept_stored : (before : List (List ℕ)) → stored (compacted p).rows before ≡ closed_rows h rows
    unfolding compacted
    kept_stored before = stored_live (filter (λ row. row.live) p.rows) before (all_filter (λ row. row.live) p.rows) ∙ sym kept_rows

    kept_entries : entries_for h.sort (closed_rows h rows) ≡ entries (compacted p)
    unfolding entries entries_for
    kept_entries =
        let e : h.sort ≡ p.opening.sort = ap (λ (n : Header). n.sort) r.shown.header in
        let same : (compacted p).opening ≡ p.opening = unfold compacted in refl in
        rw (kept_rows, e, same) (ap rebuilt (map-map (λ (cells : List ℕ). get_or cells p.opening.sort 0) (λ (row : Row). row.cells) (compacted p).rows))

    kept_count : kept.rows ≡ length (compacted p).rows
    kept_count = c.rows_counted ∙ ap length kept_rows ∙ length-map (compacted p).rows (λ row. row.cells)

    header_after : closed_header h kept ≡ header_of (compacted p)
    header_after =
        rw (kept_count, c.entries_counted, kept_entries, r.shown.header, dead_compacted p) (unfold compacted in refl)

    rows_read : rows_of h.columns kept.rows rows' ≡ closed_rows h rows
    rows_read = closed_read h rows sorts live base kept rows' sorts' live' base' c rows_fit

    long_after : stores_short p.opening (lengths rows' keys' sorts' pending [] []) ≡ false
    unfolding stores_short
    long_after = rw (same_rows, same_sorts, same_keys) r.long_enough

    proper_after : Proper (compacted p)
    proper_after = compacted_proper r.proper (rw (ap (λ (n : Header). n.generation) r.shown.header) at g)

    shown_after : Shows (compacted p) (closed_header h kept) rows' sorts' pending
    shown_after =
        record {
          header = header_after;
          rows_shown = checked_rows_stored (closed_header h kept) rows' proper_after (unfold compacted in (stores_long p.opening (lengths rows' keys' sorts' pending [] []) long_after).rows_long)
              header_after (rw rows_read (kept_stored (closed_rows h rows)));
          entries_shown = rw c.sorts_after (entries_of_put (entries_for h.sort (closed_rows h rows)) sorts kept.entries c.entries_counted ∙ kept_entries);
          pending_held = unfold compacted in r.shown.pending_held;
        }

    represents_after : Represents (compacted p) (stores (closed_header h kept) rows' keys' sorts' pending)
    represents_after =
        record {
          proper = proper_after;
          long_enough = unfold compacted in long_after;
          shown = shown_after;
          keys_sound = keyed_after r.keys_sound;
        }

    closed_up : ClosedUp h rows keys sorts (closed_header h kept) rows' keys' sorts' pending p
    unfolding row_store sort_store
    closed_up =
        record {
          header = header_after;
          rows_after = c.rows_after ∙ ap (λ (l : List (List ℕ)). splice rows 0 (flatten l)) (sym (kept_stored []));
          sorts_after = c.sorts_after ∙ ap (λ (es : List Entry). splice sorts 0 (entry_words es)) kept_entries;
          represents = represents_after;
        }

  -- the contract of a compaction, after the live rows have moved down and the key store refers to them
  pub compaction : h.generation < 4294967295 → Compaction h rows keys sorts live base (closed_header h kept) rows' keys' sorts' live' base'
  compaction g =
      record {
        past = past_after;
        words_past = c.words_past;
        table = λ pending p r. closed_up pending p r g;
      }

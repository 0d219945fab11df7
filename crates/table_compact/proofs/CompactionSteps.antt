-- The steps of a compaction: a row kept, the turns of the loops over the rows, and what the entry point answers. Assumes nothing.
use Rattle.refusals.specs.Laws.Numbers.{err_outcome, ok_replies, ok_outcome, number_some}
use Rattle.refusals.specs.declared.Refusal.{Refusal}
use Rattle.std.specs.Prelude.{Ok, Err}
use Rattle.table_compact.proofs.Prelude.{ℕ, ◌+◌, ◌-◌, ◌*◌, ◌/◌, ◌%◌, ◌≤◌, ◌<◌, min, ◌≡◌, refl, sym, ap, ap₂, ◌∙◌, Bool, true, false, List, [], ◌∷◌, ◌++◌, add-zero, add-mul, mul-le-mul_right, arith, bit_and, count_trailing_zeros, length, take, drop, get_or, set, length-take, length-drop, length-set, length-append, drop-set-lt, map_front, splice_nil, get_d_splice_in, length_filter, is_live, live_first, Append, push, push_few, bitmap_word_same, onward, onward_all, Next, next_bit, no_more, IndexShape, slots, Fits, rows_in_lem, Inside, row_inside, fits_stores, size_class_most, fits_fewer, Rebuilt, renumbered, Ranked, below_number, live_among, outcome_refused, outcome_accepted, Header, KeptCounts, Lengths, compact_refusal, index_shape_of, full_index_shape_of, body, compaction_words, SamePast, lengths, Compacting, inside_full_shape, full_shape_fits, compact_accepted, Lendable, KeysUpdated, next_generation, Compaction, length_live, live_one, live_skip, later_row, close_one, entries_one, rebuild_one, Words, words_begin, words_next, words_number, compaction, none_compaction}
use Rattle.lists.specs.Lists.{splice, filter, row_at, rows_of, flatten}
use Rattle.cells.specs.Cells.{is_dead}
use Rattle.sort_entries.specs.Entries.{Entry, entry_words, rebuilt_from, rebuilt}
use Rattle.row_buffer.specs.Ranks.{live_at, live_word, bitmap_word, new_number}
use Rattle.bitmap.specs.inner.Marking.{Spaced, other_at}
use Rattle.refusals.specs.Refusals.{accepted, number, answer_view}
use Rattle.table_compact.specs.inner.ClosingUp.{Movable, Closable, Keepable, RowKept, Closing, block_word, Block, BlockKept, Closed, live_stored, entries_for, closed_header}

-- ---- a row is kept

module _ {h : Header} {rows sorts : List ℕ} {row : ℕ} {kept : KeptCounts} (k : Keepable h rows sorts row kept) where
  -- the row, and the place that it moves to
  pub from_place : Inside rows h.columns row
  from_place = row_inside (full_index_shape_of h) rows row k.within k.row_below

  pub to_place : kept.rows * h.columns ≤ row * h.columns
  to_place = mul-le-mul_right h.columns k.moves_down

  wide : length (take h.columns (drop (row * h.columns) rows)) ≡ h.columns
  wide = simp (length-take, length-drop) (omega (arith, from_place.in_store))

  pub row_kept : (r : ℕ) (rows' sorts' : List ℕ)
      → rows' ≡ splice rows (kept.rows * h.columns) (take h.columns (drop (row * h.columns) rows))
      → Append sorts kept.entries (get_or rows' (kept.rows * h.columns + h.sort) 0) kept.rows r sorts'
      → RowKept h rows sorts row kept r rows' sorts'
  unfolding row_at
  row_kept r rows' sorts' m b =
      let cells = take h.columns (drop (row * h.columns) rows) in
      let fits : kept.rows * h.columns + length cells ≤ length rows = omega (arith, wide, to_place, from_place.in_store) in
      let cell : get_or rows' (kept.rows * h.columns + h.sort) 0 ≡ get_or cells h.sort 0 =
      rw m (get_d_splice_in rows cells (kept.rows * h.columns) fits h.sort 0 (omega (arith, wide, k.sort_column))) in
      record { moved = m; recorded = rw cell at b }

-- ---- rows close up

module _ {h : Header} {rows₀ sorts₀ : List ℕ} where
  pub close_begin : Closing h rows₀ sorts₀ rows₀ sorts₀ (record { rows = 0; entries = 0 }) 0
  unfolding live_stored entries_for rows_of filter flatten rebuilt rebuilt_from entry_words
  close_begin =
      record {
        row_in = omega arith;
        kept_few = omega arith;
        entries_few = omega arith;
        rows_same = refl;
        sorts_same = refl;
        counted = refl;
        closed = sym (splice_nil rows₀ 0);
        entered = refl;
        recorded = sym (splice_nil sorts₀ 0);
      }

  module _ {rows sorts : List ℕ} {kept : KeptCounts} {row : ℕ} (s : Closing h rows₀ sorts₀ rows sorts kept row) where
    -- dead ones are passed
    pub close_skip : (to : ℕ) → row ≤ to → to ≤ h.rows → ((i : ℕ) → row ≤ i → i < to → is_live (row_at h.columns i rows₀) ≡ false)
        → Closing h rows₀ sorts₀ rows sorts kept to
    close_skip to from below dead =
        let e : row + (to - row) ≡ to = omega arith in
        let same : live_stored h.columns row rows₀ ≡ live_stored h.columns to rows₀ =
        sym (live_skip h.columns row (to - row) rows₀ (λ i p q. dead i p (omega arith))) ∙ ap (λ (n : ℕ). live_stored h.columns n rows₀) e in
        record {
          row_in = below;
          kept_few = omega (arith, s.kept_few);
          entries_few = s.entries_few;
          rows_same = s.rows_same;
          sorts_same = s.sorts_same;
          counted = s.counted ∙ ap length same;
          closed = s.closed ∙ ap (λ (l : List (List ℕ)). splice rows₀ 0 (flatten l)) same;
          entered = s.entered ∙ ap (λ (l : List (List ℕ)). length (entries_for h.sort l)) same;
          recorded = s.recorded ∙ ap (λ (l : List (List ℕ)). splice sorts₀ 0 (entry_words (entries_for h.sort l))) same;
        }

    module _ (m : Movable h rows₀ sorts₀) where
      -- a later row is unchanged
      pub later_same : (i : ℕ) → row ≤ i → i < h.rows → row_at h.columns i rows ≡ row_at h.columns i rows₀
      later_same i low more = rw s.closed (later_row h.columns row i rows₀ low (row_inside (full_index_shape_of h) rows₀ i m.within more).in_store)

      module _ (more : row < h.rows) where
        -- the row can be kept
        pub can_keep : Keepable h rows sorts row kept
        can_keep =
            record {
              within = record {
                most_columns = m.within.most_columns;
                most_keys = m.within.most_keys;
                most = m.within.most;
                count = m.within.count;
                cells = rw s.rows_same m.within.cells;
              };
              sort_column = m.sort_column;
              row_below = more;
              moves_down = s.kept_few;
              room = record {
                few = omega (arith, s.entries_few, s.kept_few, m.within.count, m.within.most);
                words = omega (arith, s.entries_few, s.kept_few, m.within.count, m.sorts_long, s.sorts_same);
              };
            }

        -- it is kept
        module _ {rows' sorts' : List ℕ} {r : ℕ} (k : RowKept h rows sorts row kept r rows' sorts') (lives : is_live (row_at h.columns row rows₀) ≡ true) where
          abbrev lv : List (List ℕ)
          lv = live_stored h.columns row rows₀

          abbrev cell : ℕ
          cell = get_or (row_at h.columns row rows₀) h.sort 0

          next_same : row_at h.columns row rows ≡ row_at h.columns row rows₀
          next_same = later_same row (omega arith) more

          grown : live_stored h.columns (row + 1) rows₀ ≡ lv ++ (row_at h.columns row rows₀ ∷ [])
          grown = live_one h.columns row rows₀ lives

          entries_grown : push cell kept.rows (entries_for h.sort lv) ≡ entries_for h.sort (live_stored h.columns (row + 1) rows₀)
          entries_grown = rw (grown, s.counted) (sym (entries_one h.sort lv (row_at h.columns row rows₀)))

          entries_after : (r ≡ length (push cell kept.rows (entries_for h.sort lv))) × (sorts' ≡ splice sorts₀ 0 (entry_words (push cell kept.rows (entries_for h.sort lv))))
          entries_after =
              let fits : 2 * length (entries_for h.sort lv) + 2 ≤ length sorts₀ = omega (arith, s.entered, s.entries_few, s.kept_few, more, m.within.count, m.sorts_long) in
              rebuild_one sorts₀ (entries_for h.sort lv) fits cell kept.rows kept.entries r sorts' s.entered (rw (s.recorded, next_same) at k.recorded)

          rows_after : rows' ≡ splice rows₀ 0 (flatten (live_stored h.columns (row + 1) rows₀))
          rows_after =
              k.moved
              ∙ ap₂ (λ (l m : List ℕ). splice l (kept.rows * h.columns) m) s.closed next_same
              ∙ ap (λ (n : ℕ). splice (splice rows₀ 0 (flatten lv)) (n * h.columns) (row_at h.columns row rows₀)) s.counted
              ∙ close_one h.columns row rows₀ (row_inside (full_index_shape_of h) rows₀ row m.within more).in_store lives

          pub close_kept : length rows' ≡ length rows → length sorts' ≡ length sorts
              → Closing h rows₀ sorts₀ rows' sorts' (record { rows = kept.rows + 1; entries = r }) (row + 1)
          close_kept er es =
              record {
                row_in = omega (arith, more);
                kept_few = omega (arith, s.kept_few);
                entries_few = omega (arith, entries_after.0, push_few cell kept.rows (entries_for h.sort lv), s.entered, s.entries_few);
                rows_same = er ∙ s.rows_same;
                sorts_same = es ∙ s.sorts_same;
                counted = ap (λ (n : ℕ). n + 1) s.counted ∙ sym (ap length grown ∙ length-append lv (row_at h.columns row rows₀ ∷ []));
                closed = rows_after;
                entered = entries_after.0 ∙ ap length entries_grown;
                recorded = entries_after.1 ∙ ap (λ (l : List Entry). splice sorts₀ 0 (entry_words l)) entries_grown;
              }

-- ---- the rows of a bitmap word

module _ {h : Header} {rows sorts : List ℕ} {first live : ℕ} {before : KeptCounts} (b : Block h rows sorts first live before) where
  abbrev lives : ℕ → Bool
  lives bit = live_at is_live (rows_of h.columns h.rows b.rows₀) (first + bit)

  lives_row : (bit : ℕ) → bit < b.count → lives bit ≡ is_live (row_at h.columns (first + bit) b.rows₀)
  lives_row bit k = live_among (index_shape_of h) b.rows₀ h.rows (first + bit) (omega (arith, b.inside))

  -- what holds at the loop's head: the rows before `place` have closed up, and the word has the others
  pub record Going (rows' sorts' : List ℕ) (kept : KeptCounts) (word : ℕ) : Type 0 where
    pub place : ℕ
    pub few : place ≤ b.count
    pub others : word ≡ bitmap_word (onward lives place) b.count
    pub closing : Closing h b.rows₀ b.sorts₀ rows' sorts' kept (first + place)

  pub going_begin : Going rows sorts before live
  unfolding live_word
  going_begin =
      record {
        place = 0;
        few = omega arith;
        others = b.marked ∙ onward_all lives b.count;
        closing = rw add-zero b.closing;
      }

  module _ {rows' sorts' : List ℕ} {kept : KeptCounts} {word : ℕ} (s : Going rows' sorts' kept word) where
    pub going_lengths : (length rows' ≡ length rows) × (length sorts' ≡ length sorts)
    going_lengths = (s.closing.rows_same ∙ sym b.closing.rows_same, s.closing.sorts_same ∙ sym b.closing.sorts_same)

    passed : (to : ℕ) → s.place ≤ to → to ≤ b.count → ((k : ℕ) → s.place ≤ k → k < to → lives k ≡ false)
        → Closing h b.rows₀ b.sorts₀ rows' sorts' kept (first + to)
    passed to low high dead =
        close_skip s.closing (first + to) (omega arith) (omega (arith, b.inside)) (λ i p q.
        let e : first + (i - first) ≡ i = omega arith in
        let f = lives_row (i - first) (omega arith) in
        rw e at (sym f ∙ dead (i - first) (omega arith) (omega arith)))

    pub going_end : word ≡ 0 → Closing h b.rows₀ b.sorts₀ rows' sorts' kept (first + b.count)
    going_end z = passed b.count s.few (omega arith) (no_more lives s.place b.count word s.others z)

    module _ (some : word ≡ 0 → ⊥) where
      abbrev bit : ℕ
      bit = count_trailing_zeros 64 word

      next : Next lives s.place b.count word bit
      next = next_bit lives s.place b.count word s.others b.few some

      pub row_in_block : first + bit < h.rows
      row_in_block = omega (arith, next.below, b.inside)

      at_row : Closing h b.rows₀ b.sorts₀ rows' sorts' kept (first + bit)
      at_row = passed bit next.after (omega (arith, next.below)) next.none

      pub going_keep : Keepable h rows' sorts' (first + bit) kept
      going_keep = can_keep at_row b.movable row_in_block

      pub going_on : {rows'' sorts'' : List ℕ} {r : ℕ} → RowKept h rows' sorts' (first + bit) kept r rows'' sorts'' → length rows'' ≡ length rows' → length sorts'' ≡ length sorts'
          → Going rows'' sorts'' (record { rows = kept.rows + 1; entries = r }) (bit_and word (word - 1))
      going_on k er es =
          let e : first + bit + 1 ≡ first + (bit + 1) = omega arith in
          record {
            place = bit + 1;
            few = omega (arith, next.below);
            others = next.rest;
            closing = rw e at (close_kept at_row b.movable row_in_block k (sym (lives_row bit next.below) ∙ next.set) er es);
          }

-- ---- all rows

module _ (h : Header) (rows₀ sorts₀ live₀ base₀ : List ℕ) where
  -- what holds at the loop's head
  pub record Iteration (rows sorts live base : List ℕ) (kept : KeptCounts) (next : ℕ) : Type 0 where
    pub closing : Closing h rows₀ sorts₀ rows sorts kept next
    pub aligned : next < h.rows → next % 64 ≡ 0
    pub live_same : length live ≡ length live₀
    pub base_same : length base ≡ length base₀
    pub numbered : Words (rows_of h.columns h.rows rows₀) h.rows next live base
    pub words_past : SamePast ((h.capacity + 63) / 64) live₀ live × SamePast ((h.capacity + 63) / 64) base₀ base

  pub iteration_begin : Iteration rows₀ sorts₀ live₀ base₀ (record { rows = 0; entries = 0 }) 0
  iteration_begin =
      record {
        closing = close_begin;
        aligned = λ _. omega arith;
        live_same = refl;
        base_same = refl;
        numbered = words_begin _ h.rows live₀ base₀;
        words_past = (refl, refl);
      }

module _ {h : Header} {rows₀ sorts₀ live₀ base₀ : List ℕ} (c : Closable h rows₀ sorts₀ live₀ base₀) where
  -- the number of the next live row, as the words encode it
  number_next : (row : ℕ) → row ≤ h.rows → length (live_stored h.columns row rows₀) ≡ new_number is_live (rows_of h.columns h.rows rows₀) row
  unfolding live_stored
  number_next row k = length_filter is_live (rows_of h.columns row rows₀) ∙ below_number (index_shape_of h) rows₀ h.rows row k

  module _ {rows sorts live base : List ℕ} {kept : KeptCounts} {first : ℕ} (s : Iteration h rows₀ sorts₀ live₀ base₀ rows sorts live base kept first) (more : first < h.rows)
      (count : ℕ) (e : count ≡ min 64 (h.rows - first)) where
    -- the words of the block are there
    pub words_in : (first / 64 < length live) × (first / 64 < length base)
    words_in =
        (omega (arith, s.live_same, c.live_long, c.movable.within.count), omega (arith, s.base_same, c.base_long, c.movable.within.count))

    -- so are its cells
    pub spaced : Spaced rows (first * h.columns) h.columns count
    spaced =
        let a : (first + count) * h.columns ≤ h.rows * h.columns = mul-le-mul_right h.columns (omega arith) in
        let d : (first + count) * h.columns ≡ first * h.columns + count * h.columns = add-mul first count h.columns in
        record {
          few = omega arith;
          apart = omega (arith, c.movable.sort_column);
          inside = omega (arith, c.movable.within.cells, s.closing.rows_same);
        }

    -- the word is the bitmap of the live ones of these rows
    word_marks : (word : ℕ) → word ≡ bitmap_word (other_at rows (first * h.columns) h.columns 4294967295) count → word ≡ block_word h rows₀ first count
    unfolding live_word other_at is_dead
    word_marks word q = q ∙ bitmap_word_same _ _ count (λ k b.
        let i : first + k < h.rows = omega arith in
        let d : first * h.columns + k * h.columns ≡ (first + k) * h.columns = sym (add-mul first k h.columns) in
        rw d
        (sym (live_first h.columns (first + k) rows (omega (arith, c.movable.sort_column)))
        ∙ ap is_live (later_same s.closing c.movable (first + k) (omega arith) i)
        ∙ sym (live_among (index_shape_of h) rows₀ h.rows (first + k) i)))

    module _ (word : ℕ) (q : word ≡ bitmap_word (other_at rows (first * h.columns) h.columns 4294967295) count) where
      pub the_block : Block h rows sorts first word kept
      the_block =
          record {
            rows₀ = rows₀;
            sorts₀ = sorts₀;
            count = count;
            movable = c.movable;
            few = omega arith;
            inside = omega arith;
            marked = word_marks word q;
            closing = s.closing;
          }

      pub iteration_on : {rows' sorts' : List ℕ} {r : KeptCounts} → BlockKept h rows sorts first word kept r rows' sorts'
          → Iteration h rows₀ sorts₀ live₀ base₀ rows' sorts' (set live (first / 64) word) (set base (first / 64) kept.rows) r (first + count)
      unfolding the_block
      iteration_on k =
          let needed : first / 64 < (h.capacity + 63) / 64 = omega (arith, c.movable.within.count) in
          record {
            closing = k.on the_block;
            aligned = λ less. omega (arith, s.aligned more);
            live_same = length-set live (first / 64) word ∙ s.live_same;
            base_same = length-set base (first / 64) kept.rows ∙ s.base_same;
            numbered = rw e (words_next (rows_of h.columns h.rows rows₀) h.rows first live base word kept.rows s.numbered (s.aligned more) words_in.0 words_in.1
                (word_marks word q ∙ ap (block_word h rows₀ first) e) (s.closing.counted ∙ number_next first s.closing.row_in));
            words_past = (drop-set-lt ((h.capacity + 63) / 64) live (first / 64) word needed ∙ s.words_past.0, drop-set-lt ((h.capacity + 63) / 64) base (first / 64) kept.rows needed ∙ s.words_past.1);
          }

  -- all rows are done
  pub close_end : {rows sorts live base : List ℕ} {kept : KeptCounts} {next : ℕ} → Iteration h rows₀ sorts₀ live₀ base₀ rows sorts live base kept next → h.rows ≤ next
      → Closed h rows₀ sorts₀ live₀ base₀ kept rows sorts live base
  close_end {rows} {sorts} {live} {base} {kept} {next} s k =
      let e : next ≡ h.rows = omega (arith, s.closing.row_in) in
      record {
        rows_counted = rw e at s.closing.counted;
        rows_after = rw e at s.closing.closed;
        entries_counted = rw e at s.closing.entered;
        sorts_after = rw e at s.closing.recorded;
        numbered = λ i l.
            words_number (rows_of h.columns h.rows rows₀) h.rows live base (rw e at s.numbered) i l.0
            ∙ sym (below_number (index_shape_of h) rows₀ h.rows i (omega (arith, l.0)));
        words_past = s.words_past;
      }

-- ---- the whole compaction

module _ {h : Header} {rows keys sorts live base : List ℕ} (lent : Lendable h rows keys sorts live base) where
  -- what is lent is enough for the rows to close up
  pub closable : Closable h rows sorts live base
  closable =
      record {
        movable = record { within = rows_in_lem (full_index_shape_of h) rows keys lent.fits; sort_column = lent.sort_column; sorts_long = lent.sorts_long };
        live_long = lent.live_long;
        base_long = lent.base_long;
      }

  -- and for the key store to lead to them
  pub can_lead : {kept : KeptCounts} {rows' keys' sorts' live' base' : List ℕ} → Closed h rows sorts live base kept rows' sorts' live' base' → length rows' ≡ length rows
      → length keys' ≡ length keys → length live' ≡ length live → length base' ≡ length base
      → (Ranked (index_shape_of h) live' base') × (slots (index_shape_of h) ≤ length keys') × (Fits (index_shape_of (closed_header h kept)) rows' keys')
  unfolding live_stored
  can_lead {kept} {rows'} {keys'} c er ek el eb =
      let w = lent.fits in
      let f = full_shape_fits h rows keys w in
      let most = size_class_most h.capacity h.rows in
      let few : kept.rows ≤ h.rows = omega (arith, c.rows_counted, length_live h.columns h.rows rows) in (
        record { room = f.most; count = f.count; bitmap_word = omega (arith, lent.live_long); firsts = omega (arith, lent.base_long) },
        rw ek f.long,
        full_shape_fits (closed_header h kept) rows' keys' (fits_stores (fits_fewer (full_index_shape_of h) (full_index_shape_of (closed_header h kept)) rows keys w refl refl w.some (omega (arith, w.count)) (omega arith)) rows' keys' er ek),
      )

  pub compact_end : {kept : KeptCounts} {rows' keys' sorts' live' base' : List ℕ} → h.generation < 4294967295 → Closed h rows sorts live base kept rows' sorts' live' base'
      → KeysUpdated h (closed_header h kept) rows' keys live' base' keys' → length keys' ≡ length keys
      → Compaction h rows keys sorts live base (closed_header h kept) rows' keys' sorts' live' base'
  compact_end {kept} {rows'} {keys'} {sorts'} {live'} {base'} g c led same = compaction h rows keys sorts live base lent kept rows' sorts' live' base' c keys' same led g

-- ---- the key store

module _ {t : IndexShape} (u : IndexShape) (e : t ≡ u) where
  pub lead_fits : {rows keys : List ℕ} → Fits u rows keys → Fits t rows keys
  lead_fits f = rw e f

  pub lead_ranked : {live base : List ℕ} {n : ℕ} → Ranked u live base → slots u ≤ n → (Ranked t live base) × (slots t ≤ n)
  lead_ranked r long = rw e (r, long)

module _ (h n : Header) {rows keys live base keys' : List ℕ} (t : IndexShape) (e : t ≡ index_shape_of h) (u : IndexShape) (f : u ≡ index_shape_of n) where
  -- with another number of slots
  pub led_rebuilt : (u.room ≡ t.room → ⊥) → Rebuilt u rows keys keys' → KeysUpdated h n rows keys live base keys'
  led_rebuilt ne r = record { numbers = λ q. absurd ((rw (e, f) at ne) q); rebuilt_keys = λ _. rw f at r }

  -- in the same
  pub led_renumbered : u.room ≡ t.room → keys' ≡ map_front (renumbered t live base) (slots t) keys → KeysUpdated h n rows keys live base keys'
  led_renumbered q r = record { numbers = λ _. rw e at r; rebuilt_keys = λ ne. absurd (ne (rw (e, f) at q)) }

-- ---- the entry point

-- there is a next generation
pub compact_next : (h : Header) (l : Lengths) → compact_refusal h l ≡ 0 → h.generation ≤ 4294967295 → h.generation < 4294967295
compact_next h l accepts g = omega (arith, (compact_accepted h l accepts).not_last)

module _ (h : Header) (rows keys sorts live base : List ℕ) where
  -- a refused compaction
  pub compact_refused : (r : Refusal) → number r ≡ compact_refusal h (lengths rows keys sorts [] live base)
      → Compacting h (body rows keys sorts) (compaction_words live base) (Err r) (body rows keys sorts) (compaction_words live base)
  compact_refused r e =
      record {
        refusal = err_outcome _ r e;
        unchanged = λ k. (refl, refl);
        past = refl;
        words_past = (refl, refl);
        table = λ z. absurd (number_some r (e ∙ z));
      }

  module _ (accepts : compact_refusal h (lengths rows keys sorts [] live base) ≡ 0) where
    -- what it requires
    pub compact_lendable : h.generation ≤ 4294967295 → Lendable h rows keys sorts live base × (h.generation < 4294967295)
    compact_lendable g =
        let k = compact_accepted h (lengths rows keys sorts [] live base) (accepts) in (
          record {
            fits = inside_full_shape h rows keys k.inside k.long.rows_long k.long.keys_long;
            sort_column = k.inside.bounds.sort_column;
            sorts_long = k.long.sorts_long;
            live_long = k.words.live_long;
            base_long = k.words.base_long;
          },
          compact_next h _ accepts g,
        )

    -- without dead rows
    pub compact_none : h.dead ≡ 0 → h.generation ≤ 4294967295 → (h' : Header) → h' ≡ next_generation h
        → Compaction h rows keys sorts live base h' rows keys sorts live base
    compact_none none g h' e = rw e (none_compaction h rows keys sorts none (compact_next h _ accepts g) live base)

    -- it is done
    pub compact_done : (h' : Header) (rows' keys' sorts' live' base' : List ℕ) → Compaction h rows keys sorts live base h' rows' keys' sorts' live' base'
        → Compacting h (body rows keys sorts) (compaction_words live base) (Ok h') (body rows' keys' sorts') (compaction_words live' base')
    unfolding answer_view
    compact_done h' rows' keys' sorts' live' base' c =
        record {
          refusal = ok_outcome h' accepts;
          unchanged = λ k. absurd (omega (arith, accepts));
          past = c.past;
          words_past = c.words_past;
          table = λ z pending p r.
              let k = c.table pending p r in
              record {
                answers = ap accepted k.header;
                rows_after = k.rows_after;
                sorts_after = k.sorts_after;
                represents = rw k.header at k.represents;
              };
        }

-- A table that shows a plain table is sound, and a sound table shows one. Assumes nothing.
use Rattle.table.proofs.Laws.Prelude.{ℕ, zero, suc, ◌+◌, ◌≤◌, ◌<◌, ◌≡◌, refl, sym, ap, ◌∙◌, inl, inr, Bool, true, false, cond, not, List, [], ◌∷◌, map, Option, none, some, add-zero, zero-add, mul-le-mul_right, arith, length, take, get_or, set, length-map, length-set, get_or-set_same, le-ltb, eq-eqb, all, count, row_at, rows_of, split, all_of, length_rows_of, get_d_rows_of, length_row_at, get_d_map_below, count_alike, LiveAt, key_at, Entry, entries_of, value_at, entries_sound, NeverFalls, rebuilt_sound, rebuilt_value_at, length_entries_of, sound_climb, sound_some, rebuilt_all, value_at_all, value_at_climbs, rebuilt_same, Staged, Proper, row_of, sort_cell, at_most, no_row, wide_row, first_fits, kept_row, live_below_lem, bounds_openable, Optional, None, Some, Header, index_shape_of, Sound, Stores, stores, lengths, Represents}
use Rattle.refusals.specs.Refusals.{first_refusal}
use Rattle.constraints.specs.Constraints.{is_live}
use Rattle.plain_table.specs.Plain.{Row, Plain, dead}
use Rattle.table.specs.Numbers.{opening_of, largest_view, largest_of}
use Rattle.table.specs.Refusing.{pending_outside, rows_short, pairs_short, sound_refusal}
use Rattle.table.specs.Stores.{entries, header_of, RowShown}
use Rattle.table.proofs.Laws.Shown.{long_stores, header_inside, represents_long, row_shown, rows_counted, in_live, live_cells_lem}
use Rattle.table.proofs.Laws.Refusals.{Tested, sound_tested}
use Rattle.table.proofs.Laws.Pending.{holds_fits}

-- ---- the sort cells of a plain table

-- of all rows, in order
abbrev pub sort_cells : Plain → List ℕ
sort_cells p = map (λ row. get_or row.cells p.opening.sort 0) p.rows

-- there are as many as rows
pub length_sort_cells : (p : Plain) → length (sort_cells p) ≡ length p.rows
length_sort_cells p = length-map p.rows (λ row. get_or row.cells p.opening.sort 0)

-- the sort cell of row i
pub get_d_sort_cells : (p : Plain) (i : ℕ) → i < length p.rows → get_or (sort_cells p) i 0 ≡ sort_cell p (row_of p i)
get_d_sort_cells p i h = get_d_map_below (λ (row : Row). get_or row.cells p.opening.sort 0) p.rows i no_row 0 h

-- they never fall
pub sort_cells_climb : {p : Plain} → Proper p → NeverFalls (sort_cells p)
sort_cells_climb {p} proper i j h k =
    let n = length_sort_cells p in
    omega (arith, get_d_sort_cells p i (omega arith), get_d_sort_cells p j (omega arith), proper.sorted i j h (omega arith))

-- the entries of a proper plain table are sound
pub entries_sound_lem : {p : Plain} → Proper p → entries_sound (entries p) (length p.rows) ≡ true
unfolding entries
entries_sound_lem {p} proper = rw (length_sort_cells p) at (rebuilt_sound (sort_cells p) (sort_cells_climb proper))

-- the entries record each row's sort cell
pub entries_value_at : {p : Plain} → Proper p → (i : ℕ) → i < length p.rows → value_at i (entries p) ≡ sort_cell p (row_of p i)
unfolding entries
entries_value_at {p} proper i h =
    rebuilt_value_at (sort_cells p) (sort_cells_climb proper) i (omega (arith, length_sort_cells p)) ∙ get_d_sort_cells p i h

-- no entry exceeds the largest value
pub entries_kept : {p : Plain} → Proper p → all (λ e. at_most e.value p.largest) (entries p) ≡ true
unfolding entries
entries_kept {p} proper =
    rebuilt_all (λ v. at_most v p.largest) (λ (row : Row). get_or row.cells p.opening.sort 0) p.rows proper.largest_kept

-- ---- the largest value, in a header and in a plain table

pub largest_view_largest_of : (o : Option ℕ) → largest_view (largest_of o) ≡ o
unfolding largest_view largest_of
largest_view_largest_of none = refl
largest_view_largest_of (some v) = refl

pub largest_of_largest_view : (l : Optional ℕ) → largest_of (largest_view l) ≡ l
unfolding largest_view largest_of
largest_of_largest_view None = refl
largest_of_largest_view (Some v) = refl

-- ---- a table that shows a plain table is sound

module _ {p : Plain} {s : Stores} (r : Represents p s) where
  tested_sound : sound_refusal s.header (length s.rows) (length s.keys) (length s.sorts) (length s.pending) ≡ 0
  unfolding sound_refusal pending_outside rows_short pairs_short first_refusal
  tested_sound =
      let g = represents_long r in
      let k = holds_fits r.shown.pending_held in
      rw (r.shown.header, header_inside r.proper, le-ltb _ _ k, le-ltb _ _ g.rows_long, le-ltb _ _ g.keys_long, le-ltb _ _ g.sorts_long)

  counted : s.header.dead ≡ count (λ row. not (is_live row)) (rows_of s.header.columns s.header.rows s.rows)
  unfolding dead
  counted =
      ap (λ (h : Header). h.dead) r.shown.header
      ∙ count_alike (λ (row : Row). not row.live) (λ (row : List ℕ). not (is_live row)) no_row [] p.rows (rows_of s.header.columns s.header.rows s.rows)
      (sym (length_rows_of s.header.columns s.header.rows s.rows ∙ rows_counted r))
      (λ i h. ap not ((row_shown r i h).live ∙ ap is_live (sym (get_d_rows_of s.header.columns s.header.rows s.rows i (omega (arith, rows_counted r))))))

  differ : (i j : ℕ) → LiveAt (index_shape_of s.header) s.rows i → LiveAt (index_shape_of s.header) s.rows j
      → key_at (index_shape_of s.header) s.rows i ≡ key_at (index_shape_of s.header) s.rows j → i ≡ j
  differ i j a b e =
      let n : s.header.keys ≡ p.opening.keys = ap (λ (h : Header). h.keys) r.shown.header in
      r.proper.keys_differ i j (in_live r i a) (in_live r j b)
      (rw (live_cells_lem r i (in_live r i a), live_cells_lem r j (in_live r j b), ← n) e)

  rise : entries_sound (entries_of s.header.entries s.sorts) s.header.rows ≡ true
  rise = rw (r.shown.entries_shown, rows_counted r) (entries_sound_lem r.proper)

  recorded : (i : ℕ) → LiveAt (index_shape_of s.header) s.rows i → get_or (row_at s.header.columns i s.rows) s.header.sort 0 ≡ value_at i (entries_of s.header.entries s.sorts)
  recorded i l =
      let n : s.header.sort ≡ p.opening.sort = ap (λ (h : Header). h.sort) r.shown.header in
      let q = in_live r i l in
      rw (r.shown.entries_shown, n, ← live_cells_lem r i q) (sym (entries_value_at r.proper i (omega (arith, rows_counted r, l.0))))

  -- a table that shows a plain table is sound
  pub represents_sound : Sound s.header s.rows s.keys s.sorts s.pending p.staged
  represents_sound =
      record {
        tested = tested_sound;
        contents =
            record {
              dead_counted = counted;
              keys_differ = differ;
              entries_rise = rise;
              sorted = recorded;
              largest_kept = rw (r.shown.entries_shown, r.shown.header, largest_view_largest_of p.largest) (entries_kept r.proper);
              pending_counted = rw r.shown.header;
              pending_whole = rw r.shown.header r.shown.pending_held;
            };
        keys_sound = r.keys_sound;
      }

-- ---- a sound table shows a plain table

-- a row that is stored as live has the stored cells; in a dead row the sort cell is the value that the entries record
unfoldable pub plain_row : ℕ → ℕ → List ℕ → Row
plain_row sort value cells = record { live = is_live cells; cells = cond (is_live cells) cells (set cells sort value) }

-- the rows, numbered from n
unfoldable pub plain_rows : ℕ → List Entry → ℕ → List (List ℕ) → List Row
plain_rows sort es n [] = []
plain_rows sort es n (cells ∷ rows) = plain_row sort (value_at n es) cells ∷ plain_rows sort es (suc n) rows

-- the plain table that sound stores show
abbrev pub plain_of : Header → List ℕ → List ℕ → List Staged → Plain
plain_of h rows sorts staged =
    record {
      opening = opening_of h;
      generation = h.generation;
      rows = plain_rows h.sort (entries_of h.entries sorts) 0 (rows_of h.columns h.rows rows);
      staged = staged;
      largest = largest_view h.largest;
    }

length_plain_rows : (sort : ℕ) (es : List Entry) (n : ℕ) (rows : List (List ℕ)) → length (plain_rows sort es n rows) ≡ length rows
unfolding plain_rows
length_plain_rows sort es n [] = refl
length_plain_rows sort es n (cells ∷ rows) = ap suc (length_plain_rows sort es (suc n) rows)

get_d_plain_rows : (sort : ℕ) (es : List Entry) (n : ℕ) (rows : List (List ℕ)) (i : ℕ) → i < length rows → get_or (plain_rows sort es n rows) i no_row ≡ plain_row sort (value_at (n + i) es) (get_or rows i [])
unfolding plain_rows
get_d_plain_rows sort es n [] i h = absurd (omega arith)
get_d_plain_rows sort es n (cells ∷ rows) zero h = rw add-zero
get_d_plain_rows sort es n (cells ∷ rows) (suc i) h =
    let e : suc n + i ≡ n + suc i = omega arith in
    rw (← e) (get_d_plain_rows sort es (suc n) rows i (omega arith))

-- stored cells show the plain row made of them
plain_row_shown : (sort value : ℕ) (cells : List ℕ) → RowShown (plain_row sort value cells) cells
unfolding plain_row
plain_row_shown sort value cells = record { live = refl; same = λ e. rw e }

plain_row_width : (sort value : ℕ) (cells : List ℕ) → length (plain_row sort value cells).cells ≡ length cells
unfolding plain_row
plain_row_width sort value cells = go (is_live cells)
  where
    go : (b : Bool) → length (cond b cells (set cells sort value)) ≡ length cells
    go true = refl
    go false = length-set cells sort value

plain_row_first : (sort value : ℕ) (cells : List ℕ) → first_fits (plain_row sort value cells) ≡ true
unfolding plain_row
plain_row_first sort value cells = elim (split (is_live cells)) [ inl e ↦ rw e (unfold is_live in e) | inr e ↦ rw e ]

plain_row_sort : (sort value : ℕ) (cells : List ℕ) → sort < length cells → (is_live cells ≡ true → get_or cells sort 0 ≡ value) → get_or (plain_row sort value cells).cells sort 0 ≡ value
unfolding plain_row
plain_row_sort sort value cells h f = go (is_live cells) refl
  where
    go : (b : Bool) → is_live cells ≡ b → get_or (cond b cells (set cells sort value)) sort 0 ≡ value
    go true e = f e
    go false e = get_or-set_same cells sort value 0 h

module _ {h : Header} {rows keys sorts pending : List ℕ} {staged : List Staged} (s : Sound h rows keys sorts pending staged) where
  sound_facts : Tested h (length rows) (length keys) (length sorts) (length pending)
  sound_facts = sound_tested h (length rows) (length keys) (length sorts) (length pending) s.tested

  -- it has as many rows as the header counts
  pub plain_of_length : length (plain_of h rows sorts staged).rows ≡ h.rows
  plain_of_length = length_plain_rows h.sort (entries_of h.entries sorts) 0 (rows_of h.columns h.rows rows) ∙ length_rows_of h.columns h.rows rows

  -- each row of it
  pub plain_of_row : (i : ℕ) → i < h.rows → row_of (plain_of h rows sorts staged) i ≡ plain_row h.sort (value_at i (entries_of h.entries sorts)) (row_at h.columns i rows)
  plain_of_row i k =
      get_d_plain_rows h.sort (entries_of h.entries sorts) 0 (rows_of h.columns h.rows rows) i (omega (arith, length_rows_of h.columns h.rows rows))
      ∙ rw (zero-add i, get_d_rows_of h.columns h.rows rows i k)

  plain_of_shown : (i : ℕ) → i < h.rows → RowShown (row_of (plain_of h rows sorts staged) i) (row_at h.columns i rows)
  plain_of_shown i k = rw (plain_of_row i k) (plain_row_shown h.sort (value_at i (entries_of h.entries sorts)) (row_at h.columns i rows))

  width_at : (i : ℕ) → i < h.rows → length (row_at h.columns i rows) ≡ h.columns
  width_at i k =
      length_row_at h.columns i rows
      (let t = sound_facts in
      let a : i + 1 ≤ h.rows = omega arith in
      let b = mul-le-mul_right h.columns a in
      let c = mul-le-mul_right h.columns t.inside.rows_fit in
      omega (arith, t.long.rows_long))

  -- each row's sort cell is what the entries record
  pub plain_of_sort : (i : ℕ) → i < h.rows → get_or (row_of (plain_of h rows sorts staged) i).cells h.sort 0 ≡ value_at i (entries_of h.entries sorts)
  plain_of_sort i k =
      let t = sound_facts.inside.bounds.sort_column in
      rw (plain_of_row i k)
      (plain_row_sort h.sort (value_at i (entries_of h.entries sorts)) (row_at h.columns i rows) (omega (arith, width_at i k)) (λ e. s.contents.sorted i (k, e)))

  plain_of_below : (i : ℕ) → (row_of (plain_of h rows sorts staged) i).live ≡ true → i < h.rows
  plain_of_below i e = omega (arith, live_below_lem (plain_of h rows sorts staged).rows i e, plain_of_length)

  plain_of_live : (i : ℕ) → (row_of (plain_of h rows sorts staged) i).live ≡ true → LiveAt (index_shape_of h) rows i
  plain_of_live i e = (plain_of_below i e, sym (plain_of_shown i (plain_of_below i e)).live ∙ e)

  plain_of_cells : (i : ℕ) → (row_of (plain_of h rows sorts staged) i).live ≡ true → (row_of (plain_of h rows sorts staged) i).cells ≡ row_at h.columns i rows
  plain_of_cells i e = (plain_of_shown i (plain_of_below i e)).same e

  plain_of_proper : h.generation ≤ 4294967295 → Proper (plain_of h rows sorts staged)
  plain_of_proper g =
      let t = sound_facts in
      record {
        numbers = bounds_openable (opening_of h) t.inside.bounds;
        generation_fits = g;
        rows_fit = omega (arith, plain_of_length, t.inside.rows_fit);
        widths = all_of (wide_row h.columns) no_row (plain_of h rows sorts staged).rows wide;
        live_first = all_of first_fits no_row (plain_of h rows sorts staged).rows first_fits_lem;
        keys_differ = λ i j a b e. s.contents.keys_differ i j (plain_of_live i a) (plain_of_live j b) (ap (take h.keys) (sym (plain_of_cells i a)) ∙ e ∙ ap (take h.keys) (plain_of_cells j b));
        sorted = λ i j a b. climb i j a (omega (arith, plain_of_length));
        largest_kept = all_of (kept_row h.sort (largest_view h.largest)) no_row (plain_of h rows sorts staged).rows kept;
        staged_whole = s.contents.pending_whole.whole;
      }
    where
      inside : (i : ℕ) → i < length (plain_of h rows sorts staged).rows → i < h.rows
      inside i k = omega (arith, plain_of_length)

      wide : (i : ℕ) → i < length (plain_of h rows sorts staged).rows → wide_row h.columns (row_of (plain_of h rows sorts staged) i) ≡ true
      wide i k =
          rw (plain_of_row i (inside i k))
          (eq-eqb _ _ (plain_row_width h.sort (value_at i (entries_of h.entries sorts)) (row_at h.columns i rows) ∙ width_at i (inside i k)))

      first_fits_lem : (i : ℕ) → i < length (plain_of h rows sorts staged).rows → first_fits (row_of (plain_of h rows sorts staged) i) ≡ true
      first_fits_lem i k = rw (plain_of_row i (inside i k)) (plain_row_first h.sort (value_at i (entries_of h.entries sorts)) (row_at h.columns i rows))

      kept : (i : ℕ) → i < length (plain_of h rows sorts staged).rows → kept_row h.sort (largest_view h.largest) (row_of (plain_of h rows sorts staged) i) ≡ true
      kept i k =
          let es : List Entry = entries_of h.entries sorts in
          let some-rows : 0 < h.rows = omega (arith, inside i k) in
          rw (plain_of_sort i (inside i k)) (value_at_all (λ v. at_most v (largest_view h.largest)) i es (sound_some es h.rows s.contents.entries_rise some-rows) s.contents.largest_kept)

      climb : (i j : ℕ) → i ≤ j → j < h.rows → get_or (row_of (plain_of h rows sorts staged) i).cells h.sort 0 ≤ get_or (row_of (plain_of h rows sorts staged) j).cells h.sort 0
      climb i j a b =
          omega (
            arith,
            plain_of_sort i (omega arith),
            plain_of_sort j b,
            value_at_climbs i j (entries_of h.entries sorts) h.rows (sound_climb (entries_of h.entries sorts) h.rows s.contents.entries_rise) a,
          )

  -- its entries are the stored ones
  pub plain_of_entries : entries_of h.entries sorts ≡ entries (plain_of h rows sorts staged)
  unfolding entries
  plain_of_entries =
      let p : Plain = plain_of h rows sorts staged in
      let n : length (sort_cells p) ≡ h.rows = length_sort_cells p ∙ plain_of_length in
      sym
      (rebuilt_same (sort_cells p) (entries_of h.entries sorts) (rw n s.contents.entries_rise)
      (λ i k. get_d_sort_cells p i (omega (arith, plain_of_length)) ∙ plain_of_sort i (omega arith)))

  plain_of_dead : h.dead ≡ dead (plain_of h rows sorts staged)
  unfolding dead
  plain_of_dead =
      s.contents.dead_counted
      ∙ count_alike (λ (row : List ℕ). not (is_live row)) (λ (row : Row). not row.live) [] no_row (rows_of h.columns h.rows rows) (plain_of h rows sorts staged).rows
      (length_rows_of h.columns h.rows rows ∙ sym plain_of_length)
      (λ i k.
      let j : i < h.rows = omega (arith, length_rows_of h.columns h.rows rows) in
      ap not (ap is_live (get_d_rows_of h.columns h.rows rows i j) ∙ sym (plain_of_shown i j).live))

  plain_of_header : h ≡ header_of (plain_of h rows sorts staged)
  plain_of_header =
      let a : h.rows ≡ length (plain_of h rows sorts staged).rows = sym plain_of_length in
      let c : h.entries ≡ length (entries (plain_of h rows sorts staged)) = sym (length_entries_of h.entries sorts) ∙ ap length plain_of_entries in
      let d : h.largest ≡ largest_of (largest_view h.largest) = sym (largest_of_largest_view h.largest) in
      λ i.
      record {
        columns = h.columns;
        keys = h.keys;
        sort = h.sort;
        rule = h.rule;
        capacity = h.capacity;
        rows = a i;
        dead = plain_of_dead i;
        entries = c i;
        pending = s.contents.pending_counted i;
        generation = h.generation;
        largest = d i;
      }

  -- sound stores show a plain table with the same staged records
  pub plain_of_represents : h.generation ≤ 4294967295 → Represents (plain_of h rows sorts staged) (stores h rows keys sorts pending)
  plain_of_represents g =
      record {
        proper = plain_of_proper g;
        long_enough = long_stores (opening_of h) (lengths rows keys sorts pending [] []) sound_facts.long;
        shown =
            record {
              header = plain_of_header;
              rows_shown = λ i k. plain_of_shown i k;
              entries_shown = plain_of_entries;
              pending_held = s.contents.pending_whole;
            };
        keys_sound = s.keys_sound;
      }

  -- a sound table whose generation fits shows a plain table
  pub sound_represents : h.generation ≤ 4294967295 → (p : Plain) × Represents p (stores h rows keys sorts pending) × (p.staged ≡ staged)
  sound_represents g = (plain_of h rows sorts staged, plain_of_represents g, refl)

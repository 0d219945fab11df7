-- Steps of an insert in the code's form: the row that the rule makes, and the answers of the parts put together. Assumes
-- nothing.
use Rattle.merge_insert.proofs.Prelude.{ℕ, ◌+◌, ◌-◌, ◌*◌, ◌≤◌, ◌<◌, ◌≡◌, refl, sym, ap, ap₂, ◌∙◌, Bool, true, false, not, false≢true, List, add-zero, arith, length, take, drop, get_or, length-take, length-drop, take-take, take_all, get_or-take, get_or-drop, le-leb, lt-leb, not-true, not-false, part_width, part_splice, changes_from, made_from, survivor, survivor_length, survivor_old, IndexShape, Option, None, Some, Hit, slots, Fits, FoundIs, Header, Result, Ok, Err, Stop, Insertion, appended, index_shape_of, full_shape_fits, Ready, Inserting, placed, Growable, NewIs, ReplaceIs, length_made, skip_inserts, new_inserts, known_inserts}
use Rattle.lists.specs.Lists.{splice, row_at, same}
use Rattle.cells.specs.Cells.{is_dead}
use Rattle.merge_insert.specs.inner.Ruling.{Changes, row_made, Makeable, MadeIs, UnchangedOld, KnownIs}

-- ---- the row made

-- the cells of a row behind its first k
behind : (k : ℕ) (row : List ℕ) → take (length row - k) (drop k row) ≡ drop k row
behind k row = take_all (length row - k) (drop k row) (rw (length-drop k row) (omega arith))

module _ (h : Header) (rows pending out : List ℕ) (old from : ℕ) where
  -- the old row as it is lent on
  pub old_width : Makeable h rows pending out old from → length (take (old * h.columns + h.columns - old * h.columns) (drop (old * h.columns) rows)) ≡ h.columns
  old_width m = simp (length-take, length-drop) (omega (arith, m.old_in))

  -- the survivor of the two rows
  module _ (row : List ℕ)
      (e : row ≡ survivor h.rule h.keys h.sort (take h.columns (drop (old * h.columns) rows)) (take h.columns (drop from pending))) where
    -- is as wide
    pub survivor_width : Makeable h rows pending out old from → length row ≡ h.columns
    survivor_width m =
        let o : length (take h.columns (drop (old * h.columns) rows)) ≡ h.columns = simp (length-take, length-drop) (omega (arith, m.old_in)) in
        let n : length (take h.columns (drop from pending)) ≡ h.columns = simp (length-take, length-drop) (omega (arith, m.new_in)) in
        ap length e ∙ survivor_length h.rule h.keys h.sort _ _ (o ∙ sym n) ∙ o

    -- and has a place
    pub survivor_fits : Makeable h rows pending out old from → 0 + length row ≤ length out
    survivor_fits m = omega (arith, survivor_width m, m.few_columns, m.out_long)

    -- behind the key it has the old row's cells, or a row is made
    abbrev old_part : List ℕ
    old_part = take (old * h.columns + h.columns - old * h.columns) (drop (old * h.columns) rows)

    module _ (b : Bool) (t : b ≡ same (take (length row - h.keys) (drop h.keys row)) (take (length old_part - h.keys) (drop h.keys old_part))) where
      unchanged : b ≡ not (Changes h (row_at h.columns old rows) (take h.columns (drop from pending)))
      unfolding row_at
      unchanged =
          t
          ∙ ap₂ same (behind h.keys row ∙ ap (drop h.keys) e) (behind h.keys old_part ∙ ap (drop h.keys) (part_width rows (old * h.columns) h.columns))
          ∙ survivor_old h.rule h.keys h.sort _ _

      pub survivor_kept : b ≡ true → MadeIs h rows pending out old from false out
      survivor_kept q = record { answer = sym (not-true _ (sym unchanged ∙ q)); row = λ t. absurd (false≢true t) }

      pub survivor_made : b ≡ false → h.rule ≤ 1 → (out' : List ℕ) → out' ≡ splice out 0 row → MadeIs h rows pending out old from true out'
      unfolding row_made row_at
      survivor_made q l out' k = record { answer = sym (not-false _ (sym unchanged ∙ q)); row = λ t. rw (le-leb _ _ l) (k ∙ ap (splice out 0) e) }

  module _ (b : Bool)
      (e : b
      ≡ changes_from h.rule h.keys h.sort 0 (take (old * h.columns + h.columns - old * h.columns) (drop (old * h.columns) rows)) (take (from + h.columns - from) (drop from pending))) where
    answer : b ≡ Changes h (row_at h.columns old rows) (take h.columns (drop from pending))
    unfolding row_at
    answer = e ∙ ap₂ (changes_from h.rule h.keys h.sort 0) (part_width rows (old * h.columns) h.columns) (part_width pending from h.columns)

    -- the old row is kept
    pub made_not : b ≡ false → MadeIs h rows pending out old from false out
    made_not q = record { answer = sym q ∙ answer; row = λ t. absurd (false≢true t) }

    -- the rule makes a third
    pub made_third : b ≡ true → 1 < h.rule → (out' : List ℕ)
        → out'
        ≡ splice out 0
        (made_from h.rule h.keys h.sort 0 (take (old * h.columns + h.columns - old * h.columns) (drop (old * h.columns) rows)) (take (from + h.columns - from) (drop from pending)))
        → MadeIs h rows pending out old from true out'
    unfolding row_made row_at
    made_third q l out' k =
        record {
          answer = sym q ∙ answer;
          row = λ t.
              rw (lt-leb _ _ l)
              (k
              ∙ ap (splice out 0)
              (ap₂ (made_from h.rule h.keys h.sort 0) (part_width rows (old * h.columns) h.columns) (part_width pending from h.columns)));
        }

-- ---- a known key

module _ (h : Header) (rows keys sorts pending : List ℕ) (old from : ℕ) (ready : Ready h rows keys sorts pending) (inside : from + h.columns ≤ h.pending) (below : old < h.rows) where
  pub makeable : (out : List ℕ) → length out ≡ 8 → Makeable h rows pending out old from
  makeable out n =
      let at = placed h rows keys ready.fits old (omega (arith, ready.fits.count)) in
      record {
        few_columns = ready.fits.most_columns;
        few_keys = ready.fits.most_keys;
        old_small = at.small;
        old_in = at.inside;
        new_in = omega (arith, ready.pending_fits);
        out_long = n;
      }

  module _ (out : List ℕ) (n : length out ≡ 8) (b : Bool) (out' : List ℕ) (m : MadeIs h rows pending out old from b out') where
    -- the old row is kept
    pub kept_old : b ≡ false → UnchangedOld h rows keys sorts (take h.columns (drop from pending)) old rows keys sorts
    kept_old q = record { unchanged = sym m.answer ∙ q; same_rows = refl; same_keys = refl; same_sorts = refl }

    -- the row made, as it is lent on
    made_cells : b ≡ true → take (h.columns - 0) (drop 0 out') ≡ row_made h (row_at h.columns old rows) (take h.columns (drop from pending))
    made_cells q =
        let row : List ℕ = row_made h (row_at h.columns old rows) (take h.columns (drop from pending)) in
        let at = makeable out n in
        let a : length (row_at h.columns old rows) ≡ h.columns = unfold row_at in simp (length-take, length-drop) (omega (arith, at.old_in)) in
        let c : length (take h.columns (drop from pending)) ≡ h.columns = simp (length-take, length-drop) (omega (arith, at.new_in)) in
        let w : length row ≡ h.columns = length_made h _ _ (a ∙ sym c) ∙ a in
        let z : h.columns - 0 ≡ length row = omega arith in
        ap₂ (λ (k : ℕ) (l : List ℕ). take k (drop 0 l)) z (m.row q) ∙ part_splice out row 0 (omega (arith, at.few_columns))

    -- it is appended and the old row dies, or the merge stops
    pub known_of : b ≡ true → (hash slot : ℕ) (rows' keys' sorts' : List ℕ) (r : Result Header Stop)
        → ReplaceIs h rows keys sorts (take (h.columns - 0) (drop 0 out')) hash old slot rows' keys' sorts' r
        → KnownIs h rows keys sorts (take h.columns (drop from pending)) hash old slot rows' keys' sorts' (appended r)
    known_of q hash slot rows' keys' sorts' (Ok h') g = (sym m.answer ∙ q, rw (made_cells q) at g)
    known_of q hash slot rows' keys' sorts' (Err stop) g = (sym m.answer ∙ q, rw (made_cells q) at g)

-- ---- one insert

module _ (h : Header) (rows keys sorts pending : List ℕ) (from hash : ℕ) (ready : Ready h rows keys sorts pending) (inside : from + h.columns ≤ h.pending) where
  wide : length (take h.columns (drop from pending)) ≡ h.columns
  wide = simp (length-take, length-drop) (omega (arith, ready.pending_fits))

  first_cell : get_or (take h.columns (drop from pending)) 0 0 ≡ get_or pending from 0
  first_cell =
      get_or-take h.columns (drop from pending) 0 0 ready.fits.some_columns ∙ get_or-drop from pending 0 0 ∙ ap (λ (k : ℕ). get_or pending k 0) (add-zero from)

  -- a dead first cell
  pub inserts_skipped : (b : Bool) → b ≡ is_dead (get_or pending from 0) → b ≡ true
      → Inserting h rows keys sorts (take h.columns (drop from pending)) hash (Ok None) rows keys sorts
  inserts_skipped b e q = skip_inserts h rows keys sorts (take h.columns (drop from pending)) hash (ap is_dead first_cell ∙ sym e ∙ q)

  -- the key can be looked up
  pub findable : (t : IndexShape) → t ≡ index_shape_of h → Fits t rows keys × (length (take (from + h.keys - from) (drop from pending)) ≡ t.keys)
  findable t e =
      let n : length (take (from + h.keys - from) (drop from pending)) ≡ h.keys =
      simp (length-take, length-drop) (omega (arith, ready.pending_fits, ready.fits.most_keys)) in
      rw e (full_shape_fits h rows keys ready.fits, n)

  -- a row can be appended
  pub can_append : Growable h rows keys sorts (take (from + h.columns - from) (drop from pending))
  can_append =
      record {
        fits = ready.fits;
        sort_column = ready.sort_column;
        entries_fit = ready.entries_fit;
        dead_fits = ready.dead_fits;
        sorts_long = ready.sorts_long;
        width = ap length (part_width pending from h.columns) ∙ wide;
      }

  module _ (t : IndexShape) (keyed-is : t ≡ index_shape_of h) (f : Option Hit) (found : FoundIs t rows keys (take (from + h.keys - from) (drop from pending)) hash f) where
    looked_up_rows : FoundIs (index_shape_of h) rows keys (take h.keys (take h.columns (drop from pending))) hash f
    looked_up_rows =
        let k = part_width pending from h.keys ∙ sym (take-take h.keys h.columns (drop from pending) ready.fits.most_keys) in
        rw (keyed-is, k) at found

    -- the row and the slot that are found exist
    pub found_row : (hit : Hit) → f ≡ Some hit → hit.row < h.rows
    found_row hit e = looked_up_rows.row_in hit e

    pub found_slot : (hit : Hit) → f ≡ Some hit → hit.slot < slots (index_shape_of h)
    found_slot hit e = looked_up_rows.slot_in hit e

    module _ (b : Bool) (e : b ≡ is_dead (get_or pending from 0)) (q : b ≡ false) (rows' keys' sorts' : List ℕ) where
      live : is_dead (get_or (take h.columns (drop from pending)) 0 0) ≡ false
      live = ap is_dead first_cell ∙ sym e ∙ q

      -- a new key
      pub inserts_new : f ≡ None → (r : Result Header Stop) → NewIs h rows keys sorts (take (from + h.columns - from) (drop from pending)) hash rows' keys' sorts' r
          → Inserting h rows keys sorts (take h.columns (drop from pending)) hash (appended r) rows' keys' sorts'
      inserts_new m r g =
          new_inserts h rows keys sorts (take h.columns (drop from pending)) hash ready.fits ready.entries_fit wide live f looked_up_rows m r rows' keys' sorts' (rewidth r g)
        where
          rewidth : (r : Result Header Stop) → NewIs h rows keys sorts (take (from + h.columns - from) (drop from pending)) hash rows' keys' sorts' r
              → NewIs h rows keys sorts (take h.columns (drop from pending)) hash rows' keys' sorts' r
          rewidth (Ok h') k = rw (part_width pending from h.columns) at k
          rewidth (Err stop) k = rw (part_width pending from h.columns) at k

      -- a known one
      pub inserts_known : (hit : Hit) → f ≡ Some hit → (r : Insertion)
          → KnownIs h rows keys sorts (take h.columns (drop from pending)) hash hit.row hit.slot rows' keys' sorts' r
          → Inserting h rows keys sorts (take h.columns (drop from pending)) hash r rows' keys' sorts'
      inserts_known hit m r g =
          known_inserts h rows keys sorts (take h.columns (drop from pending)) hash ready.fits ready.entries_fit wide live f looked_up_rows hit m r rows' keys' sorts' g

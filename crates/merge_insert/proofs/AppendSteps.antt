-- Steps of an append in the code's form: what a row that has entered finds, the key store with the row, and the combined answers of
-- the parts. Assumes nothing.
use Rattle.merge_insert.proofs.Prelude.{ℕ, ◌+◌, ◌*◌, ◌≤◌, ◌<◌, ◌≡◌, refl, sym, ap, ◌∙◌, Bool, true, false, false≢true, List, add-zero, arith, length, get_or, set, splice, IndexShape, slots, tagged, Fits, PutIs, replace_tail, fits_stores, past_size_class, fits_fewer, Rebuilt, Header, index_shape_of, SamePast, full_shape_fits, full_index_shape_of, Placed, placed, grown_to, Stops, Entered, outgrown, KeysGrown, Rebuildable, RebuiltGrown, Growable, Stayed, Grew, Replaced}

-- ---- a row that has entered

-- what a row that has entered finds: its place, slots for its number, and counts that can grow
pub record Entering (h : Header) (rows keys cells : List ℕ) : Type 0 where
  pub fits : Fits (full_index_shape_of h) rows keys
  pub slots_fit : Fits (index_shape_of h) rows keys
  pub room : h.rows < h.capacity
  pub place : Placed h rows h.rows
  pub dead_fits : h.dead + 1 ≤ 4294967295
  pub width : length cells ≡ h.columns

pub entering : {h : Header} {rows keys sorts cells : List ℕ} → Growable h rows keys sorts cells → h.rows < h.capacity → Entering h rows keys cells
entering {h} {rows} {keys} g room =
    record {
      fits = g.fits;
      slots_fit = full_shape_fits h rows keys g.fits;
      room = room;
      place = placed h rows keys g.fits h.rows room;
      dead_fits = omega (arith, g.dead_fits);
      width = g.width;
    }

-- the old row's place
pub old_place : {h : Header} {rows keys cells : List ℕ} → Entering h rows keys cells → (old : ℕ) → old < h.rows → Placed h rows old
old_place {h} {rows} {keys} e old k = placed h rows keys e.fits old (omega (arith, k, e.room))

-- ---- the key store

-- it can be rebuilt with the row, once that is written
pub rebuilds : {h : Header} {rows keys cells : List ℕ} → Entering h rows keys cells → (rows' : List ℕ) → length rows' ≡ length rows → (died : ℕ) → died ≤ 1
    → Rebuildable h rows' keys died
rebuilds {h} {rows} {keys} e rows' same died k =
    record { fits = fits_stores e.fits rows' keys same refl; place = e.room; dead_fits = omega (arith, e.dead_fits) }

pub rebuildable : (h : Header) (rows keys : List ℕ) (died entries value : ℕ) → Rebuildable h rows keys died → (n : Header) → n ≡ grown_to h (h.dead + died) entries value
    → (t : IndexShape) → t ≡ index_shape_of n → Fits t rows keys
rebuildable h rows keys died entries value b n e t k =
    let h' = grown_to h (h.dead + died) entries value in
    rw (k, e) (full_shape_fits h' rows keys (fits_fewer (full_index_shape_of h) (full_index_shape_of h') rows keys b.fits refl refl b.fits.some (omega (arith, b.place)) (omega arith)))

pub rebuilt_after_append : (h : Header) (rows keys keys' : List ℕ) (died entries value : ℕ) (n : Header) → n ≡ grown_to h (h.dead + died) entries value
    → (t : IndexShape) → t ≡ index_shape_of n → Rebuilt t rows keys keys' → (Rebuilt (index_shape_of (grown_to h (h.dead + died) entries value)) rows keys keys')
rebuilt_after_append h rows keys keys' died entries value n e t k r = rw (k, e) at r

module _ (h h' : Header) (rows' keys : List ℕ) {Entry : Type 0} (keys' : List ℕ) (same : length keys' ≡ length keys) where
  -- it is rebuilt
  keys_by_rebuild : outgrown h ≡ true → h'.capacity ≡ h.capacity → Rebuilt (index_shape_of h') rows' keys keys' → KeysGrown h h' rows' keys Entry keys'
  keys_by_rebuild e c r =
      record { more = λ _. r.sound; stepped = λ f. absurd (false≢true (sym f ∙ e)); past = rw c at (past_size_class h'.capacity h'.rows keys keys' r.rest); same = same }

  -- the row steps in
  keys_by_entry : outgrown h ≡ false → Entry → SamePast (2 * h.capacity) keys keys' → KeysGrown h h' rows' keys Entry keys'
  keys_by_entry e entry past = record { more = λ f. absurd (false≢true (sym e ∙ f)); stepped = λ _. entry; past = past; same = same }

-- ---- the answers

module _ (h : Header) (rows keys sorts cells : List ℕ) where
  -- a stop
  pub unchanged_by_stop : (sorts' : List ℕ) (n : ℕ) → Stops h (get_or cells h.sort 0) n × (sorts' ≡ sorts) → Stayed h rows keys sorts cells n rows keys sorts'
  unchanged_by_stop sorts' n s = record { stops = s.0; same_rows = refl; same_keys = refl; same_sorts = s.1 }

  module _ (hash n : ℕ) (sorts' : List ℕ) (entered : Entered h sorts (get_or cells h.sort 0) n sorts') (rows' keys' : List ℕ) (same : length keys' ≡ length keys) where
    -- the header counts the entries
    counted : (dead : ℕ) (h' : Header) → h' ≡ grown_to h dead n (get_or cells h.sort 0)
        → Entered h sorts (get_or cells h.sort 0) h'.entries sorts' × (h' ≡ grown_to h dead h'.entries (get_or cells h.sort 0))
    counted dead h' e =
        let m : n ≡ h'.entries = sym (ap (λ (x : Header). x.entries) e) in
        (rw m at entered, e ∙ ap (λ (k : ℕ). grown_to h dead k (get_or cells h.sort 0)) m)

    -- a new key's row appended
    module _ (rows_is : rows' ≡ splice rows (h.rows * h.columns) cells) where
      new_appended : (h' : Header) → h' ≡ grown_to h (h.dead + 0) n (get_or cells h.sort 0)
          → KeysGrown h h' rows' keys ((r : Bool) × PutIs (slots (index_shape_of h)) keys hash h.rows r keys') keys' → Grew h rows keys sorts cells hash h' rows' keys' sorts'
      new_appended h' e after =
          let k = counted h.dead h' (rw add-zero at e) in record { entered = k.0; header = k.1; rows_after = rows_is; keys_after = after }

      pub new_entered : outgrown h ≡ false → (t : IndexShape) → t ≡ index_shape_of h → (r : Bool) → PutIs (slots t) keys hash h.rows r keys'
          → (h' : Header) → h' ≡ grown_to h (h.dead + 0) n (get_or cells h.sort 0) → Grew h rows keys sorts cells hash h' rows' keys' sorts'
      new_entered o t keyed-is r put_is h' e =
          let p : PutIs (slots (index_shape_of h)) keys hash h.rows r keys' = rw keyed-is at put_is in
          new_appended h' e (keys_by_entry h h' rows' keys keys' same o (r, p) (past_size_class h.capacity h.rows keys keys' p.tail))

      pub new_rebuilt : outgrown h ≡ true → (r : Header) → RebuiltGrown h rows' keys 0 n (get_or cells h.sort 0) r keys' → Grew h rows keys sorts cells hash r rows' keys' sorts'
      new_rebuilt o r g = rw g.answer (new_appended _ refl (keys_by_rebuild h _ rows' keys keys' same o refl g.rebuilt))

    -- a known key's
    module _ (old slot : ℕ) (rows_is : rows' ≡ splice (set rows (old * h.columns) 4294967295) (h.rows * h.columns) cells) where
      replaced : (h' : Header) → h' ≡ grown_to h (h.dead + 1) n (get_or cells h.sort 0)
          → KeysGrown h h' rows' keys (keys' ≡ set keys slot (tagged hash h.rows)) keys' → Replaced h rows keys sorts cells hash old slot h' rows' keys' sorts'
      replaced h' e after =
          let k = counted (h.dead + 1) h' e in record { entered = k.0; header = k.1; rows_after = rows_is; keys_after = after }

      pub replaced_stepped : outgrown h ≡ false → slot < slots (index_shape_of h) → keys' ≡ set keys slot (tagged hash h.rows)
          → (h' : Header) → h' ≡ grown_to h (h.dead + 1) n (get_or cells h.sort 0) → Replaced h rows keys sorts cells hash old slot h' rows' keys' sorts'
      replaced_stepped o below keys-is h' e =
          replaced h' e (keys_by_entry h h' rows' keys keys' same o keys-is (past_size_class h.capacity h.rows keys keys' (replace_tail (slots (index_shape_of h)) slot _ keys keys' below keys-is)))

      pub replaced_rebuilt : outgrown h ≡ true → (r : Header) → RebuiltGrown h rows' keys 1 n (get_or cells h.sort 0) r keys'
          → Replaced h rows keys sorts cells hash old slot r rows' keys' sorts'
      replaced_rebuilt o r g = rw g.answer (replaced _ refl (keys_by_rebuild h _ rows' keys keys' same o refl g.rebuilt))

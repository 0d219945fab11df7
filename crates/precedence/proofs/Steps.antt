-- The steps of the check: what each function answers, against the scans. Assumes nothing.
use Rattle.precedence.proofs.Prelude.{ℕ, suc, ◌+◌, ◌-◌, ◌*◌, ◌/◌, ◌≤◌, ◌<◌, ◌≡◌, refl, sym, ap, ap₂, ◌∙◌, arith, length, take, drop, get_or, set, length-set, drop_of_length-le, eq-eqb, ne_eqb, inl, inr, Bool, true, false, not, ◌&&◌, List, ◌∷◌, Option, none, some, suc-mul, add-zero, mul-le-mul, add-one, leb, length-take-le, drop-cons, take-set-lt, splice, row_at, split, length_splice, same_refl, same_eq, row_in, length_row_at, get_d_row_at, take_put, key_row, IndexShape, RustOption, None, Some, Hit, LiveAt, key_at, Fits, FoundIs, no_row, live_below_lem, Header, opening_of, rows_in, index_shape_of, KeysDiffer, of_rows, row_of_cells, length_rows_in, get_d_rows_in, any_live, any_live_lem, none_live, any_same, key_replaced, length_pairs_of, get_d_pairs_of, fails_here, fails_later, failing_pair, failure_here, failure_later, failure_dead}
use Rattle.cells.specs.Cells.{is_dead, compact_hash, key_hash}
use Rattle.constraints.specs.Constraints.{is_live}
use Rattle.plain_table.specs.Staged.{has_key}
use Rattle.plain_table.specs.Plain.{Row, live_from, live_rows}
use Rattle.precedence.specs.Precedence.{Pair, pairs_of, precedes, meets_pair, first_failing, failure_among, precedence_failure}
use Rattle.precedence.specs.declared.Failure.{Failure}
use Rattle.precedence.specs.inner.Checking.{Tested, filed_by, OnTable, row_filed, row_meets, row_failing, PlaceIs}

-- ---- rows in their store

-- a row is within the store, at places that fit into a u32
pub record RowInStore (h : Header) (rows : List ℕ) (row : ℕ) : Type 0 where
  pub inside : row * h.columns + h.columns ≤ length rows
  pub few : row * h.columns + h.columns ≤ 524288
  pub key_narrow : h.keys ≤ h.columns
  pub key_few : h.keys ≤ 8
  pub sort_there : h.sort < h.columns
  pub some_columns : 1 ≤ h.columns

module _ (h : Header) (rows keys : List ℕ) (t : Tested h rows keys) where
  pub row_in_store : (row : ℕ) → row < h.rows → RowInStore h rows row
  row_in_store row below =
      let f = t.fits in
      let room = (index_shape_of h).room in
      let a = row_in row room h.columns (omega (arith, f.count)) in
      let b = mul-le-mul f.most f.most_columns in
      record {
        inside = omega (arith, f.cells);
        few = omega arith;
        key_narrow = f.most_keys;
        key_few = omega (arith, f.most_keys, f.most_columns);
        sort_there = t.sort_there;
        some_columns = f.some_columns;
      }

  wide_row_lem : (row : ℕ) → row < h.rows → length (row_at h.columns row rows) ≡ h.columns
  wide_row_lem row below = length_row_at h.columns row rows (rw (add-one row, suc-mul) (omega (arith, row_in_store row below)))

module _ (h : Header) (rows : List ℕ) where
  live_there : (i : ℕ) → (get_or (rows_in h rows) i no_row).live ≡ true → LiveAt (index_shape_of h) rows i
  live_there i e =
      let k : i < h.rows = omega (arith, live_below_lem (rows_in h rows) i e, length_rows_in h rows) in
      (k, rw (get_d_rows_in h rows i k) at e)

  there_live : (i : ℕ) → LiveAt (index_shape_of h) rows i → (get_or (rows_in h rows) i no_row).live ≡ true
  there_live i l = rw (get_d_rows_in h rows i l.0) l.1

  cells_there : (i : ℕ) → i < h.rows → (get_or (rows_in h rows) i no_row).cells ≡ row_at h.columns i rows
  cells_there i k = rw (get_d_rows_in h rows i k)

-- ---- `is_filed_by`

module _ (h : Header) (rows key : List ℕ) (latest : ℕ) where
  abbrev filed : List ℕ → Bool
  filed cells = has_key h.keys key cells && leb (get_or cells h.sort 0) latest

  filed_scan : filed_by h rows key latest ≡ any_live filed 0 (rows_in h rows)
  unfolding filed_by live_rows
  filed_scan = refl

  not_filed : ((i : ℕ) → LiveAt (index_shape_of h) rows i → key_at (index_shape_of h) rows i ≡ key → ⊥) → false ≡ filed_by h rows key latest
  unfolding has_key
  not_filed f =
      sym (filed_scan ∙ none_live filed 0 (rows_in h rows) (λ i e.
      let l = live_there h rows i e in
      rw (cells_there h rows i l.0) (elim (split (has_key h.keys key (row_at h.columns i rows))) [ inl q ↦ absurd (f i l (same_eq _ _ q)) | inr q ↦ rw q ])))

  -- by the key's one live row
  filed_at : KeysDiffer h rows → (row : ℕ) → LiveAt (index_shape_of h) rows row → key_at (index_shape_of h) rows row ≡ key
      → leb (get_or (row_at h.columns row rows) h.sort 0) latest ≡ filed_by h rows key latest
  unfolding has_key
  filed_at differ row l e =
      elim (split (leb (get_or (row_at h.columns row rows) h.sort 0) latest)) [
        | inl q ↦ q ∙ sym (filed_scan ∙ any_live_lem filed 0 (rows_in h rows) row (there_live h rows row l) (rw (cells_there h rows row l.0, e, same_refl key) q))
        | inr q ↦ q ∙ sym (filed_scan ∙ none_live filed 0 (rows_in h rows) (λ i a.
            let m = live_there h rows i a in
            rw (cells_there h rows i m.0) (elim (split (has_key h.keys key (row_at h.columns i rows))) [
              | inl s ↦ let same_row_lem : i ≡ row = differ i row m l (same_eq _ _ s ∙ sym e) in rw (s, same_row_lem) q
              | inr s ↦ rw s
            ])))
      ]

module _ (h : Header) (rows keys key : List ℕ) (t : IndexShape) (hash : ℕ) (found : RustOption Hit) (e : t ≡ index_shape_of h) (f : FoundIs t rows keys key hash found) where
  found_is : FoundIs (index_shape_of h) rows keys key hash found
  found_is = rw e at f

  pub found_in_store : Tested h rows keys → (hit : Hit) → found ≡ Some hit → RowInStore h rows hit.row
  found_in_store tested hit q = row_in_store h rows keys tested hit.row (found_is.row_in hit q)

  module _ (hashed : hash ≡ compact_hash (key_hash key)) (latest : ℕ) where
    pub found_none : found ≡ None → OnTable h rows keys (false ≡ filed_by h rows key latest)
    found_none q sound differ = not_filed h rows key latest (found_is.none hashed sound q)

    pub found_at : Tested h rows keys → (hit : Hit) → found ≡ Some hit
        → OnTable h rows keys (leb (get_or rows (hit.row * h.columns + h.sort) 0) latest ≡ filed_by h rows key latest)
    found_at tested hit q sound differ =
        let a = found_is.at hashed sound hit q in
        rw (← get_d_row_at h.columns hit.row rows h.sort 0 tested.sort_there) (filed_at h rows key latest differ hit.row a.live a.key_is)

pub lookup_pre : (h : Header) (rows keys key : List ℕ) (t : IndexShape) → t ≡ index_shape_of h → Tested h rows keys → length key ≡ h.keys → Fits t rows keys × (length key ≡ t.keys)
lookup_pre h rows keys key t e tested width = rw e (tested.fits, width)

-- ---- `is_row_filed`

module _ (h : Header) (rows keys : List ℕ) (t : Tested h rows keys) (column row value : ℕ) (k : column < h.keys) (below : row < h.rows) where
  -- the row's key with the value in the column
  abbrev pub key_with : List ℕ
  key_with = set (take h.keys (row_at h.columns row rows)) column value

  -- as it is made in an array
  module _ (array written : List ℕ) (w : written ≡ splice array 0 (take (row * h.columns + h.keys - row * h.columns) (drop (row * h.columns) rows))) where
    made : written ≡ splice array 0 (take h.keys (row_at h.columns row rows))
    made =
        let e : row * h.columns + h.keys - row * h.columns ≡ h.keys = omega arith in
        w ∙ rw (e, key_row h.columns row h.keys rows t.fits.most_keys)

    key_width : length (take h.keys (row_at h.columns row rows)) ≡ h.keys
    key_width = length-take-le h.keys (row_at h.columns row rows) (omega (arith, wide_row_lem h rows keys t row below, t.fits.most_keys))

    pub key_fits : length array ≡ 8 → h.keys ≤ length (set written column value)
    key_fits long =
        let l = length_splice array (take h.keys (row_at h.columns row rows)) 0 (omega (arith, key_width, row_in_store h rows keys t row below)) in
        omega (arith, length-set written column value, ap length made, row_in_store h rows keys t row below)

    pub key_made : take (h.keys - 0) (set written column value) ≡ key_with
    key_made =
        let key = take h.keys (row_at h.columns row rows) in
        let e : h.keys - 0 ≡ h.keys = omega arith in
        rw (e, made)
        (take-set-lt h.keys (splice array 0 key) column value k
        ∙ ap (λ (l : List ℕ). set l column value) (ap (λ (n : ℕ). take n (splice array 0 key)) (sym key_width) ∙ take_put array key))

  pub filed_row : (r : Bool) (key : List ℕ) (latest : ℕ) → key ≡ key_with → latest ≡ get_or rows (row * h.columns + h.sort) 0
      → OnTable h rows keys (r ≡ filed_by h rows key latest) → OnTable h rows keys (r ≡ row_filed h rows column row value)
  unfolding row_filed filed_by live_rows precedes
  filed_row r key latest e l right sound differ =
      let cells = row_at h.columns row rows in
      let s : latest ≡ get_or cells h.sort 0 = l ∙ sym (get_d_row_at h.columns row rows h.sort 0 t.sort_there) in
      right sound differ
      ∙ ap₂ (λ (x : List ℕ) (y : ℕ). filed_by h rows x y) e s
      ∙ any_same (filed h rows key_with (get_or cells h.sort 0)) (precedes (opening_of h) column value cells) 0 (rows_in h rows) (λ i a.
      let m = live_there h rows i a in
      let wide = wide_row_lem h rows keys t i m.0 in
      let own = wide_row_lem h rows keys t row below in
      rw (cells_there h rows i m.0) (ap (λ (b : Bool). b && leb (get_or (row_at h.columns i rows) h.sort 0) (get_or cells h.sort 0))
      (key_replaced h.keys column value cells (row_at h.columns i rows) k (omega (arith, t.fits.most_keys)) (omega (arith, t.fits.most_keys)))))

  -- ---- `meets_pair`

  pub not_named : (first second : ℕ) → (get_or rows (row * h.columns + column) 0 ≡ first → ⊥) → true ≡ row_meets h rows column row (record { first = first; second = second })
  unfolding row_meets meets_pair
  not_named first second ne =
      rw (get_d_row_at h.columns row rows column 0 (omega (arith, t.fits.most_keys)), ne_eqb _ _ ne)

  pub named : (first second : ℕ) → get_or rows (row * h.columns + column) 0 ≡ first → row_filed h rows column row second ≡ row_meets h rows column row (record { first = first; second = second })
  unfolding row_meets meets_pair row_filed
  named first second is =
      rw (get_d_row_at h.columns row rows column 0 (omega (arith, t.fits.most_keys)), eq-eqb _ _ is)

-- ---- `failing_pair`

module _ (h : Header) (rows : List ℕ) (column : ℕ) (pairs : List ℕ) (row : ℕ) where
  -- what is to come of the pairs from a place on
  unfoldable pub from_pair : ℕ → Option ℕ
  from_pair place = first_failing (row_meets h rows column row) place (drop place (pairs_of pairs))

  pub pairs_begin : from_pair 0 ≡ failing_pair (of_rows h rows) column (pairs_of pairs) (row_at h.columns row rows)
  unfolding from_pair row_meets
  pairs_begin = refl

  module _ (place : ℕ) (k : place < length pairs / 2) where
    abbrev here : Pair
    here = record { first = get_or pairs (2 * place) 0; second = get_or pairs (2 * place + 1) 0 }

    next_pair : drop place (pairs_of pairs) ≡ here ∷ drop (suc place) (pairs_of pairs)
    next_pair =
        let d : Pair = record { first = 0; second = 0 } in
        drop-cons (pairs_of pairs) place d (omega (arith, length_pairs_of pairs)) ∙ ap (λ (x : Pair). x ∷ drop (suc place) (pairs_of pairs)) (get_d_pairs_of pairs place d k)

    pub pair_fails : row_meets h rows column row here ≡ false → from_pair place ≡ some place
    unfolding from_pair
    pair_fails e = rw next_pair (fails_here (row_meets h rows column row) place here (drop (suc place) (pairs_of pairs)) e)

    pub pair_met : row_meets h rows column row here ≡ true → from_pair place ≡ from_pair (place + 1)
    unfolding from_pair
    pair_met e = rw (next_pair, add-one place) (fails_later (row_meets h rows column row) place here (drop (suc place) (pairs_of pairs)) e)

  pub pairs_end : (place : ℕ) → length pairs / 2 ≤ place → from_pair place ≡ none
  unfolding from_pair first_failing
  pairs_end place k = rw (drop_of_length-le (pairs_of pairs) {i = place} (omega (arith, length_pairs_of pairs)))

  alive : (dead : Bool) → dead ≡ is_dead (get_or rows (row * h.columns) 0) → 1 ≤ h.columns → is_live (row_at h.columns row rows) ≡ not dead
  unfolding is_live
  alive dead e wide = rw (get_d_row_at h.columns row rows 0 0 wide, add-zero) (ap not (sym e))

  module _ (dead : Bool) (is-dead : dead ≡ is_dead (get_or rows (row * h.columns) 0)) (some_columns : 1 ≤ h.columns) where
    pub dead_row_lem : dead ≡ true → (count : ℕ) → PlaceIs count (row_failing h rows column pairs row) count
    unfolding row_failing
    dead_row_lem q count =
        record { fails = λ k. absurd (omega arith); meets = λ k. rw (alive dead is-dead some_columns, q) }

    live_row_lem : dead ≡ false → row_failing h rows column pairs row ≡ from_pair 0
    unfolding row_failing
    live_row_lem q = rw (alive dead is-dead some_columns, q) (sym pairs_begin)

    -- a place below the count was failed, and no other is
    pub place_fails : dead ≡ false → (count place : ℕ) → place < count → from_pair place ≡ from_pair 0 → from_pair place ≡ some place → PlaceIs count (row_failing h rows column pairs row) place
    place_fails q count place k left e = record { fails = λ _. live_row_lem q ∙ sym left ∙ e; meets = λ m. absurd (omega arith) }

    pub place_meets : dead ≡ false → (count place : ℕ) → from_pair place ≡ from_pair 0 → from_pair place ≡ none → PlaceIs count (row_failing h rows column pairs row) count
    place_meets q count place left e = record { fails = λ m. absurd (omega arith); meets = λ _. live_row_lem q ∙ sym left ∙ e }

-- ---- `check_precedence`

module _ (h : Header) (rows : List ℕ) (column : ℕ) (pairs : List ℕ) where
  -- what is to come of the rows from one on
  unfoldable pub from_row : ℕ → Option Failure
  from_row row = failure_among (of_rows h rows) column (pairs_of pairs) (live_from row (drop row (rows_in h rows)))

  pub rows_begin : from_row 0 ≡ precedence_failure (of_rows h rows) column (pairs_of pairs)
  unfolding from_row precedence_failure live_rows
  rows_begin = refl

  module _ (row : ℕ) (k : row < h.rows) where
    next_row : drop row (rows_in h rows) ≡ row_of_cells (row_at h.columns row rows) ∷ drop (suc row) (rows_in h rows)
    next_row =
        drop-cons (rows_in h rows) row no_row (omega (arith, length_rows_in h rows)) ∙ ap (λ (x : Row). x ∷ drop (suc row) (rows_in h rows)) (get_d_rows_in h rows row k)

    -- a row that fails is live
    failing_live : (place : ℕ) → row_failing h rows column pairs row ≡ some place
        → (is_live (row_at h.columns row rows) ≡ true) × (failing_pair (of_rows h rows) column (pairs_of pairs) (row_at h.columns row rows) ≡ some place)
    unfolding row_failing
    failing_live place e =
        elim (split (is_live (row_at h.columns row rows))) [
          | inl l ↦ (l, rw l at e)
          | inr l ↦ let f : none ≡ some place = rw l at e in absurd (let z : ◌≡◌ {A = ℕ} 0 1 = cc in omega arith)
        ]

    pub row_fails : (place : ℕ) → row_failing h rows column pairs row ≡ some place → from_row row ≡ some (record { row = row; place = place })
    unfolding from_row
    row_fails place e =
        let f = failing_live place e in
        rw next_row (failure_here (of_rows h rows) column (pairs_of pairs) row (row_of_cells (row_at h.columns row rows)) (drop (suc row) (rows_in h rows)) place f.0 f.1)

    pub row_meets_lem : row_failing h rows column pairs row ≡ none → from_row row ≡ from_row (row + 1)
    unfolding from_row row_failing
    row_meets_lem e =
        rw (next_row, add-one row)
        (elim (split (is_live (row_at h.columns row rows))) [
          | inl l ↦ failure_later (of_rows h rows) column (pairs_of pairs) row (row_of_cells (row_at h.columns row rows)) (drop (suc row) (rows_in h rows)) l (rw l at e)
          | inr l ↦ failure_dead (of_rows h rows) column (pairs_of pairs) row (row_of_cells (row_at h.columns row rows)) (drop (suc row) (rows_in h rows)) l
        ])

  pub rows_end : (row : ℕ) → h.rows ≤ row → from_row row ≡ none
  unfolding from_row failure_among live_from
  rows_end row k = rw (drop_of_length-le (rows_in h rows) {i = row} (omega (arith, length_rows_in h rows)))

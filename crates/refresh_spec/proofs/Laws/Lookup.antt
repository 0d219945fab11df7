-- "An index from value to rising row numbers": a lookup in an index of the current version returns the live rows that hold the
-- value in a named column. Assumes nothing.
use Rattle.refresh_spec.proofs.Laws.Prelude.{ℕ, suc, ◌+◌, ◌*◌, ◌/◌, ◌%◌, ◌≤◌, ◌<◌, ◌≡◌, refl, sym, ap, ◌∙◌, inl, inr, Bool, true, ◌&&◌, or-false, List, [], ◌∷◌, map, add-zero, arith, eqb, length, take, drop, get_or, get_or-take, get_or-drop, eqb-true, eq-eqb, split, and_left, and_right, and_both, any_at, any_of, bool_ext, elem_at, elem_of, is_live, no_row, Header, Stores, Represents, rows_in, length_rows_in, get_d_rows_in, live_shown}
use Rattle.lists.specs.Lists.{filter, row_at, iota, elem}
use Rattle.plain_table.specs.Plain.{Row, Plain, live_from, live_rows}
use Rattle.plain_table.specs.Refreshing.{mentions}
use Rattle.refresh_spec.specs.Index.{rows_seen, columns_named, named_in, entries_under, leads_to, looked_up, IndexOf}
use Rattle.refresh_spec.specs.inner.Finding.{leads}
use Rattle.refresh_spec.proofs.Laws.Places.{entry_in, entry_in_range}
use Rattle.refresh_spec.proofs.Laws.Chains.{under_limit}
use Rattle.refresh_spec.proofs.Laws.Fronts.{named_count}

-- ---- the named columns

-- the index store names these columns
pub record Names (columns index : List ℕ) : Type 0 where
  pub count : columns_named index ≡ length columns
  pub names : take (length columns) (drop 4 index) ≡ columns

pub column_is : (columns index : List ℕ) → take (length columns) (drop 4 index) ≡ columns → (place : ℕ) → place < length columns
    → get_or index (4 + place) 0 ≡ get_or columns place 0
column_is columns index names place p =
    sym (get_or-drop 4 index place 0)
    ∙ sym (get_or-take (length columns) (drop 4 index) place 0 p)
    ∙ ap (λ (l : List ℕ). get_or l place 0) names

pub names_of : (capacity : ℕ) (columns index : List ℕ) → 0 < capacity → 16 + 3 * (capacity * length columns) ≤ length index → named_in index ≡ columns → Names columns index
unfolding named_in
names_of capacity columns index some long e = let c = named_count capacity columns index some long e in record { count = c; names = rw c at e }

-- ---- the rows that a value's entries lead to

module _ (h : Header) (rows columns : List ℕ) where
  -- a row below `seen` is live and holds the value in the column named at a place
  pub record RowHolds (value seen row : ℕ) : Type 0 where
    pub below : row < seen
    pub live : is_live (row_at h.columns row rows) ≡ true
    pub place : ℕ
    pub place_there : place < length columns
    pub value_is : get_or (row_at h.columns row rows) (get_or columns place 0) 0 ≡ value

  -- an entry leads only to its own row, if that holds the value
  entry_holds : (value seen entry row : ℕ) → entry < seen * length columns → leads_to h rows columns value entry row ≡ true → RowHolds value seen row
  unfolding leads_to
  entry_holds value seen entry row k e =
      let cells = row_at h.columns (entry / length columns) rows in
      let test = is_live cells && eqb (get_or cells (get_or columns (entry % length columns) 0) 0) value in
      let l : test ≡ true = and_left test _ e in
      let i = entry_in_range seen (length columns) entry k in
      rw (eqb-true row (entry / length columns) (and_right test _ e)) (record {
        below = i.row_there;
        live = and_left _ _ l;
        place = entry % length columns;
        place_there = i.place_there;
        value_is = eqb-true _ _ (and_right (is_live cells) _ l);
      })

  holds_entry : (value seen row : ℕ) (r : RowHolds value seen row) → leads_to h rows columns value (row * length columns + r.place) row ≡ true
  unfolding leads_to
  holds_entry value seen row r =
      let i = entry_in seen (length columns) row r.place r.below r.place_there in
      rw (i.row_of, i.place_of, r.live, eq-eqb _ _ r.value_is, eq-eqb row row refl)

  module _ (index : List ℕ) (n : Names columns index) (value row : ℕ) where
    -- a row that the entries lead to was seen, is live and holds the value
    pub leads_holds : leads h rows columns value (entries_under h.capacity index value) row ≡ true → RowHolds value (rows_seen index) row
    unfolding leads
    leads_holds e =
        let es = entries_under h.capacity index value in
        let a = any_at (λ entry. leads_to h rows columns value entry row) 0 es e in
        let k = rw n.count at (under_limit h.capacity index value (get_or es a.0 0) (elem_of es a.0 a.1)) in
        entry_holds value (rows_seen index) (get_or es a.0 0) row k a.2

    -- an index leads to each such row
    pub holds_leads : IndexOf h rows index → RowHolds value (rows_seen index) row → leads h rows columns value (entries_under h.capacity index value) row ≡ true
    unfolding leads
    holds_leads io r =
        let es = entries_under h.capacity index value in
        let entry = row * length columns + r.place in
        let under : elem entry es ≡ true = rw (n.count, column_is columns index n.names r.place r.place_there, r.value_is) at (io.listed row r.place r.below r.live (rw n.count r.place_there)) in
        let a = elem_at entry es under in
        any_of (λ entry. leads_to h rows columns value entry row) 0 es a.0 a.1 (rw a.2 (holds_entry value (rows_seen index) row r))

-- ---- the lookup

-- the numbers of the rows that pass a test
numbers_kept : (test : ℕ → Bool) (holds : List ℕ → Bool) (s : ℕ) (l : List Row)
    → ((i : ℕ) → i < length l → test (s + i) ≡ ((get_or l i no_row).live && holds (get_or l i no_row).cells))
    → filter test (iota s (length l)) ≡ map (λ row. row.number) (filter (λ row. holds row.cells) (live_from s l))
unfolding filter iota live_from
numbers_kept test holds s [] f = refl
numbers_kept test holds s (row ∷ l) f =
    let rest = numbers_kept test holds (suc s) l (λ i k. ap test (omega arith) ∙ f (suc i) (omega arith)) in
    let e : test s ≡ (row.live && holds row.cells) = ap test (sym (add-zero s)) ∙ f 0 (omega arith) in
    elim (split row.live) [
      | inl a ↦ elim (split (holds row.cells)) [ inl b ↦ rw (e, a, b, rest) | inr b ↦ rw (e, a, b, rest) ]
      | inr a ↦ rw (e, a, rest)
    ]

module _ (h : Header) (rows columns : List ℕ) (value : ℕ) where
  holds_mentions : (seen row : ℕ) → RowHolds h rows columns value seen row → mentions columns (value ∷ []) (row_at h.columns row rows) ≡ true
  unfolding mentions elem
  holds_mentions seen row r =
      any_of (λ column. elem (get_or (row_at h.columns row rows) column 0) (value ∷ [])) 0 columns r.place r.place_there (rw (eq-eqb _ _ r.value_is))

  mentions_holds : (seen row : ℕ) → row < seen → is_live (row_at h.columns row rows) ≡ true → mentions columns (value ∷ []) (row_at h.columns row rows) ≡ true
      → RowHolds h rows columns value seen row
  unfolding mentions elem
  mentions_holds seen row k live e =
      let a = any_at (λ column. elem (get_or (row_at h.columns row rows) column 0) (value ∷ [])) 0 columns e in
      record { below = k; live = live; place = a.0; place_there = a.1; value_is = eqb-true _ _ (sym (or-false _) ∙ a.2) }

-- the result of a lookup in an index of all rows, for a table that the stores show
pub lookup_holding : {p : Plain} {s : Stores} {columns index : List ℕ} → Represents p s → Names columns index → IndexOf s.header s.rows index
    → rows_seen index ≡ s.header.rows → named_in index ≡ columns → (value : ℕ)
    → looked_up s.header s.rows index value ≡ map (λ row. row.number) (filter (λ row. mentions columns (value ∷ []) row.cells) (live_rows p))
unfolding looked_up leads
lookup_holding {p} {s} {columns} {index} r n io all named value =
    let h = s.header in
    let rows = s.rows in
    let led = leads h rows columns value (entries_under h.capacity index value) in
    let long = length_rows_in h rows in
    rw (← live_shown r, named, all)
    (ap (λ (k : ℕ). filter led (iota 0 k)) (sym long)
    ∙ numbers_kept led (mentions columns (value ∷ [])) 0 (rows_in h rows)
    (λ i k. rw (get_d_rows_in h rows i (omega arith)) (ap led (omega arith)
    ∙ bool_ext (led i) (is_live (row_at h.columns i rows) && mentions columns (value ∷ []) (row_at h.columns i rows))
    (λ e. let m = leads_holds h rows columns index n value i e in and_both _ _ m.live (holds_mentions h rows columns value (rows_seen index) i m))
    (λ e. holds_leads h rows columns index n value i io (mentions_holds h rows columns value (rows_seen index) i (omega arith) (and_left _ _ e) (and_right (is_live (row_at h.columns i rows)) _ e))))))

-- The rows that a store refers to are live, were seen and mention a value; and an index refers to all of those. Assumes nothing.
use Rattle.std.specs.Prelude.{◌≤◌, ◌≡◌, ◌&&◌}
use Rattle.refresh_index.specs.Laws.Prelude.{ℕ, refl, true, List, arith, ltb, get_or, ltb-true, lt-ltb, row_at, elem, and_left, and_right, any_at, any_of, elem_at, elem_of, is_live, Header, rows_seen, entries_under, leads, IndexOf, Names, RowHolds, leads_holds, holds_leads}
use Rattle.plain_table.specs.Refreshing.{mentions}
use Rattle.refresh_spec.specs.inner.Finding.{mentions_at, mentions_below}
use Rattle.refresh_index.specs.inner.Marking.{found}

module _ (h : Header) (rows columns : List ℕ) where
  -- a row that holds one of the values mentions it
  of_holds : (values : List ℕ) (seen value row : ℕ) → seen ≤ h.rows → elem value values ≡ true → RowHolds h rows columns value seen row
      → mentions_below h rows columns values seen row ≡ true
  unfolding mentions_below mentions_at mentions
  of_holds values seen value row few v m =
      let b = m.below in
      rw (lt-ltb row seen b, lt-ltb row h.rows (omega arith), m.live)
      (any_of (λ column. elem (get_or (row_at h.columns row rows) column 0) values) 0 columns m.place m.place_there (rw m.value_is v))

  -- conversely, it has the value that it mentions in a named column
  holds_of : (values : List ℕ) (seen row : ℕ) → mentions_below h rows columns values seen row ≡ true → (value : ℕ) × (elem value values ≡ true) × RowHolds h rows columns value seen row
  unfolding mentions_below mentions_at mentions
  holds_of values seen row e =
      let m = and_right (ltb row seen) _ e in
      let l = and_left (ltb row h.rows && is_live (row_at h.columns row rows)) _ m in
      let a = any_at (λ column. elem (get_or (row_at h.columns row rows) column 0) values) 0 columns (and_right (ltb row h.rows && is_live (row_at h.columns row rows)) _ m) in (
        get_or (row_at h.columns row rows) (get_or columns a.0 0) 0,
        a.2,
        record {
          below = ltb-true _ _ (and_left _ _ e);
          live = and_right (ltb row h.rows) _ l;
          place = a.0;
          place_there = a.1;
          value_is = refl;
        },
      )

  module _ (index : List ℕ) (n : Names columns index) (values : List ℕ) where
    -- a row that is found was seen, is live and mentions a value
    pub found_mentions : rows_seen index ≤ h.rows → (row : ℕ) → found h rows index columns values row ≡ true → mentions_below h rows columns values (rows_seen index) row ≡ true
    unfolding found
    found_mentions few row e =
        let v = any_at (λ value. leads h rows columns value (entries_under h.capacity index value) row) 0 values e in
        of_holds values (rows_seen index) (get_or values v.0 0) row few (elem_of values v.0 v.1) (leads_holds h rows columns index n (get_or values v.0 0) row v.2)

    -- an index finds all of those
    pub mentions_found : IndexOf h rows index → (row : ℕ) → mentions_below h rows columns values (rows_seen index) row ≡ true → found h rows index columns values row ≡ true
    unfolding found
    mentions_found io row e =
        let m = holds_of values (rows_seen index) row e in
        let v = elem_at m.0 values m.1 in
        any_of (λ value. leads h rows columns value (entries_under h.capacity index value) row) 0 values v.0 v.1
        (rw v.2 (holds_leads h rows columns index n m.0 row io m.2))

-- The sort entry of a row, or the stop of the merge: the result of the tests and of appending an entry, by the number of the stop;
-- and that a table stops exactly where the plain table that it represents does. Assumes nothing.
use Rattle.std.specs.Prelude.{◌+◌, ◌*◌, ◌≤◌, ◌<◌, ◌≡◌, ◌∷◌}
use Rattle.merge_insert.specs.Laws.Prelude.{ℕ, sym, ap, ◌∙◌, inl, inr, true, false, List, [], arith, ltb, length, get_or, le-leb, lt-leb, splice, split, length_splice, splice_alike, entries_of, entry_words, last_passes, push, EntryFits, Append, append_few, words_entries_of, first_refusal_no, first_refusal_rest, Header, largest_view, Stores, Represents, largest_view_largest_of}
use Rattle.refusals.specs.Refusals.{first_refusal}
use Rattle.plain_table.specs.Plain.{Plain, stop, below}
use Rattle.merge_insert.specs.inner.Appending.{stop_at, Enterable, Stops, Entered}

module _ (h : Header) (value : ℕ) where
  -- stop 8
  pub stops_full : h.capacity ≤ h.rows → Stops h value 8
  unfolding stop_at first_refusal
  stops_full k = record { number = rw (le-leb _ _ k); some = omega arith }

  -- stop 9
  pub stops_old : h.rows < h.capacity → below value (largest_view h.largest) ≡ true → Stops h value 9
  unfolding stop_at first_refusal
  stops_old k e = record { number = rw (lt-leb _ _ k, e); some = omega arith }

  stops_not : h.rows < h.capacity → below value (largest_view h.largest) ≡ false → stop_at h value ≡ 0
  unfolding stop_at first_refusal
  stops_not k e = rw (lt-leb _ _ k, e)

  -- without a stop, the value is not below the largest
  pub free_above : stop_at h value ≡ 0 → below value (largest_view h.largest) ≡ false
  unfolding stop_at
  free_above e = first_refusal_no _ 8 _ (first_refusal_rest _ 7 _ e)

module _ (h : Header) (sorts : List ℕ) (value : ℕ) where
  -- there is room for an entry
  pub entry_fits : Enterable h sorts → h.rows < h.capacity → EntryFits sorts h.entries
  entry_fits f k = record { few = omega (arith, f); words = omega (arith, f) }

  module _ (fits : Enterable h sorts) (room : h.rows < h.capacity) (n : ℕ) (sorts' : List ℕ) (a : Append sorts h.entries value h.rows n sorts') where
    length_after : length sorts' ≡ length sorts
    length_after =
        ap length a.cells
        ∙ elim (split (last_passes (λ v. ltb v value) (entries_of h.entries sorts))) [
          | inl e ↦ rw e (length_splice sorts (value ∷ h.rows ∷ []) (2 * h.entries) (entry_fits fits room).words)
          | inr e ↦ rw e
        ]

    -- the entries including the next row's
    pub admit_entered : below value (largest_view h.largest) ≡ false → Entered h sorts value n sorts'
    admit_entered e =
        let few : n ≤ h.entries + 1 = append_few sorts h.entries value h.rows n sorts' a in
        let long : 2 * n ≤ length sorts' = omega (arith, (entry_fits fits room).words, length_after) in
        let put : sorts' ≡ splice sorts 0 (entry_words (push value h.rows (entries_of h.entries sorts))) =
        sym (ap (splice sorts 0) (ap entry_words (sym a.entries) ∙ words_entries_of n sorts' long) ∙ splice_alike sorts sorts' (2 * n) long (sym a.past)) in
        record {
          free = stops_not h value room e;
          room = room;
          few = few;
          entries = a.entries;
          cells = put;
          same = length_after;
        }

-- a table stops exactly where the plain table that it represents does
pub stop_same : {p : Plain} {s : Stores} → Represents p s → (cells : List ℕ) → stop cells p ≡ stop_at s.header (get_or cells s.header.sort 0)
unfolding stop stop_at
stop_same {p} {s} r cells = rw (r.shown.header, largest_view_largest_of p.largest)

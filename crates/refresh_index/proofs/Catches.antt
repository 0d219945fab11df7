-- The two cases of `catch_up`: continuing after the rows seen, and starting again. Assumes nothing.
use Rattle.refresh_index.proofs.Prelude.{ℕ, ◌+◌, ◌*◌, ◌/◌, ◌%◌, ◌≤◌, ◌<◌, ◌≡◌, sym, ◌∙◌, true, false, false≢true, List, zero-mul, div-add-mod', arith, length, get_or, Header, Lendable, usable, CaughtUp, entry_in_range, column_is, Usable, usable_is}
use Rattle.refresh_spec.specs.Index.{rows_seen, entries_under, IndexOf}
use Rattle.refresh_index.specs.inner.Entries.{cell_named, entry_live, entry_value, heads_at, Listed, Fillable, UpToDate, Filled, Emptied}
use Rattle.refresh_index.proofs.Sizes.{small}

module _ (h : Header) (rows columns index : List ℕ) where
  listed_of : IndexOf h rows index → Usable h columns index → Listed h rows columns (get_or index 12 0) (rows_seen index * length columns) index
  unfolding entries_under entry_live entry_value cell_named
  listed_of i u =
      record {
        each = λ entry k live.
            let l = entry_in_range (rows_seen index) (length columns) entry k in
            rw (u.named.count, column_is columns index u.named.names _ l.place_there, div-add-mod' entry (length columns)) at (i.listed (entry / length columns) (entry % length columns) l.row_there live (rw u.named.count l.place_there));
      }

  -- it goes on

  module _ (u : usable h columns index ≡ true) where
    pub goes_on : Lendable h rows columns index → Fillable h rows columns (get_or index 12 0) index × (get_or index 2 0 ≤ h.rows)
    unfolding rows_seen
    goes_on l = let v = usable_is h columns index u in (record { lendable = l; enough = v.enough; room = v.room }, v.seen)

    pub caught_on : (index' : List ℕ) → length index' ≡ length index → Filled h rows columns (get_or index 12 0) (get_or index 2 0) index index'
        → CaughtUp h rows columns index index' × UpToDate h columns index'
    unfolding rows_seen
    caught_on index' same f = (
      record {
        length_same = same;
        written = f.written;
        current = λ i. f.current (listed_of (i u) (usable_is h columns index u));
        past = f.past;
        entries_kept = λ _. f.same_below;
        buckets_kept = λ _. f.buckets_are;
        buckets_afresh = λ stale. absurd (false≢true (sym stale ∙ u));
      },
      f.up_to_date,
    )

  -- it starts again

  module _ (l : Lendable h rows columns index) where
    pub fresh_room : Fillable h rows columns (2 * (h.rows * length columns)) index
    fresh_room =
        let s = small h (length columns) l.inside l.columns_few in
        record { lendable = l; enough = omega arith; room = omega arith }

    pub caught_restarted : usable h columns index ≡ false → (index₁ index₂ : List ℕ) → length index₂ ≡ length index → Emptied index (heads_at h columns) (2 * (h.rows * length columns)) index₁
        → Filled h rows columns (2 * (h.rows * length columns)) 0 index₁ index₂ → CaughtUp h rows columns index index₂ × UpToDate h columns index₂
    caught_restarted stale index₁ index₂ same e f = (
      record {
        length_same = same;
        written = f.written;
        current = λ _. f.current (record { each = λ entry k. absurd (let none : entry < 0 = rw zero-mul at k in omega arith) });
        past = f.past ∙ e.past (16 + 3 * (h.capacity * length columns)) (omega (arith, fresh_room.room));
        entries_kept = λ u. absurd (false≢true (sym stale ∙ u));
        buckets_kept = λ u. absurd (false≢true (sym stale ∙ u));
        buckets_afresh = λ _. f.buckets_are;
      },
      f.up_to_date,
    )

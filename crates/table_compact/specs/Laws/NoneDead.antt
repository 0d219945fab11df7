-- A compaction of a table without dead rows: only the generation rises. Assumes nothing.
use Rattle.std.specs.Prelude.{◌*◌, ◌≤◌, ◌<◌, ◌≡◌, ◌∷◌}
use Rattle.table_compact.specs.Laws.Prelude.{ℕ, refl, sym, ap, ◌∙◌, inl, inr, true, not, List, [], arith, length, all_cons, split, filter_all, splice_front, flatten_rows_of, words_entries_of, compacted_proper, Header, stores, Represents, stored_live, represents_long, entries_few, rows_in_lem, rows_counted, rows_stored, next_generation, ClosedUp, Compaction}
use Rattle.lists.specs.Lists.{count, all, rows_of}
use Rattle.plain_table.specs.Plain.{Row, Plain, dead, compacted}
use Rattle.table.specs.Stores.{entries, header_of, stored, row_store, sort_store}

-- if no row is dead, all are live
all_live : (rows : List Row) → count (λ row. not row.live) rows ≡ 0 → all (λ row. row.live) rows ≡ true
unfolding count all
all_live [] e = refl
all_live (row ∷ rows) e =
    elim (split row.live) [
      | inl q ↦ all_cons (λ r. r.live) row rows q (all_live rows (rw q at e))
      | inr q ↦ absurd (let z = rw q at e in omega arith)
    ]

-- a plain table without dead rows keeps its rows, and so its sort entries and the numbers of its header
module _ (p : Plain) (none : dead p ≡ 0) where
  pub rows_live : all (λ row. row.live) p.rows ≡ true
  unfolding dead
  rows_live = all_live p.rows none

  pub same_rows : (compacted p).rows ≡ p.rows
  unfolding compacted
  same_rows = filter_all (λ row. row.live) p.rows rows_live

  pub same_entries : entries (compacted p) ≡ entries p
  unfolding entries compacted
  same_entries = rw (filter_all (λ row. row.live) p.rows rows_live)

  pub same_header : header_of (compacted p) ≡ next_generation (header_of p)
  unfolding dead entries compacted
  same_header = rw (filter_all (λ row. row.live) p.rows rows_live)

module _ (h : Header) (rows keys sorts : List ℕ) (none : h.dead ≡ 0) (g : h.generation < 4294967295) where
  module _ (pending : List ℕ) (p : Plain) (r : Represents p (stores h rows keys sorts pending)) where
    none_dead : dead p ≡ 0
    none_dead = sym (ap (λ (n : Header). n.dead) r.shown.header) ∙ none

    header_after : next_generation h ≡ header_of (compacted p)
    header_after = ap next_generation r.shown.header ∙ sym (same_header p none_dead)

    -- the rows stored over themselves do not change
    rows_after : rows ≡ row_store (compacted p) [] rows
    unfolding row_store
    rows_after =
        let e : h.columns ≡ p.opening.columns = ap (λ (n : Header). n.columns) r.shown.header in
        let k : h.rows * h.columns ≤ length rows = rw (e, rows_counted r) (rows_in_lem r.proper (length rows) (represents_long r).rows_long) in
        let live = rows_live p none_dead in
        let same : stored p.rows [] ≡ rows_of h.columns h.rows rows = stored_live p.rows [] live ∙ sym (stored_live p.rows _ live) ∙ rows_stored r in
        sym (rw (same_rows p none_dead, same, flatten_rows_of h.columns h.rows rows) (splice_front rows (h.rows * h.columns) k))

    sorts_after : sorts ≡ sort_store (compacted p) sorts
    unfolding sort_store
    sorts_after =
        let e : h.entries ≡ length (entries p) = ap (λ (n : Header). n.entries) r.shown.header in
        let k : 2 * h.entries ≤ length sorts = omega (arith, entries_few p, r.proper.rows_fit, (represents_long r).sorts_long) in
        sym (rw (same_entries p none_dead, ← r.shown.entries_shown, words_entries_of h.entries sorts k) (splice_front sorts (2 * h.entries) k))

    represents_after : Represents (compacted p) (stores (next_generation h) rows keys sorts pending)
    represents_after =
        record {
          proper = compacted_proper r.proper (rw (ap (λ (n : Header). n.generation) r.shown.header) at g);
          long_enough = unfold compacted in r.long_enough;
          shown =
              record {
                header = header_after;
                rows_shown = λ i k. rw (same_rows p none_dead) (r.shown.rows_shown i k);
                entries_shown = r.shown.entries_shown ∙ sym (same_entries p none_dead);
                pending_held = unfold compacted in r.shown.pending_held;
              };
          keys_sound = r.keys_sound;
        }

    next_closed : ClosedUp h rows keys sorts (next_generation h) rows keys sorts pending p
    next_closed = record { header = header_after; rows_after = rows_after; sorts_after = sorts_after; represents = represents_after }

  -- all stores and compaction words remain
  pub none_compaction : (live base : List ℕ) → Compaction h rows keys sorts live base (next_generation h) rows keys sorts live base
  none_compaction live base = record { past = refl; words_past = (refl, refl); table = next_closed }

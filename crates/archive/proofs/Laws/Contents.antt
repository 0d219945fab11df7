-- The contents of a table depend on the words in use alone. Assumes nothing.
use Rattle.archive.proofs.Laws.Prelude.{ℕ, ◌*◌, ◌<◌, ◌≡◌, sym, ap, ◌∙◌, not, List, [], take, get_or, count, row_at, get_d_rows_of, rows_of_same, is_live, entries_of, entries_of_same, Staged, Header, SoundContents}

-- the words in use are the same in other stores
pub record SameInUse (h : Header) (rows sorts pending rows' sorts' pending' : List ℕ) : Type 0 where
  pub rows_same : take (h.rows * h.columns) rows' ≡ take (h.rows * h.columns) rows
  pub sorts_same : take (2 * h.entries) sorts' ≡ take (2 * h.entries) sorts
  pub pending_same : take h.pending pending' ≡ take h.pending pending

module _ {h : Header} {rows sorts pending rows' sorts' pending' : List ℕ} (same : SameInUse h rows sorts pending rows' sorts' pending') where
  pub row_same : (i : ℕ) → i < h.rows → row_at h.columns i rows' ≡ row_at h.columns i rows
  row_same i k =
      sym (get_d_rows_of h.columns h.rows rows' i k)
      ∙ ap (λ (x : List (List ℕ)). get_or x i []) (rows_of_same h.columns h.rows rows' rows same.rows_same)
      ∙ get_d_rows_of h.columns h.rows rows i k

  pub entries_same : entries_of h.entries sorts' ≡ entries_of h.entries sorts
  entries_same = entries_of_same h.entries sorts' sorts same.sorts_same

  pub contents_same : {staged : List Staged} → SoundContents h rows sorts pending staged → SoundContents h rows' sorts' pending' staged
  contents_same s =
      record {
        dead_counted = s.dead_counted ∙ ap (count (λ (row : List ℕ). not (is_live row))) (sym (rows_of_same h.columns h.rows rows' rows same.rows_same));
        keys_differ = λ i j a b e.
            s.keys_differ i j (a.0, ap is_live (sym (row_same i a.0)) ∙ a.1) (b.0, ap is_live (sym (row_same j b.0)) ∙ b.1)
            (ap (take h.keys) (sym (row_same i a.0)) ∙ e ∙ ap (take h.keys) (row_same j b.0));
        entries_rise = rw entries_same s.entries_rise;
        sorted = λ i l. rw (entries_same, row_same i l.0) (s.sorted i (l.0, ap is_live (sym (row_same i l.0)) ∙ l.1));
        largest_kept = rw entries_same s.largest_kept;
        pending_counted = s.pending_counted;
        pending_whole =
            record {
              whole = s.pending_whole.whole;
              in_order = (rw s.pending_counted at same.pending_same) ∙ s.pending_whole.in_order;
            };
      }

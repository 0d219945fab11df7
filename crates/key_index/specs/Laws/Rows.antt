-- From what a change does to each row of the store to the premises of the soundness laws in Laws/Index.antt: one row more, or one
-- row more in place of another. Assumes nothing.
use Rattle.std.specs.Prelude.{◌+◌, ◌<◌, ◌≡◌}
use Rattle.key_index.specs.Laws.Prelude.{ℕ, sym, ap, ◌∙◌, inl, inr, true, false, false≢true, List, dec_lt, arith, take, row_at, is_live, IndexShape, LiveAt, key_at}
use Rattle.key_index.specs.Laws.Index.{Grown, Swapped}

-- the same table with n rows
pub record WithRows (t t' : IndexShape) (n : ℕ) : Type 0 where
  pub columns : t'.columns ≡ t.columns
  pub keys : t'.keys ≡ t.keys
  pub room : t'.room ≡ t.room
  pub count : t'.rows ≡ n

module _ (t t' : IndexShape) (rows rows' : List ℕ) (n : ℕ) (with_rows : WithRows t t' n) where
  live_of : (i : ℕ) → i < n → is_live (row_at t.columns i rows') ≡ true → LiveAt t' rows' i
  live_of i h e = rw (with_rows.count, with_rows.columns) (h, e)

  of_live : (i : ℕ) → LiveAt t' rows' i → (i < n) × (is_live (row_at t.columns i rows') ≡ true)
  of_live i live = rw (with_rows.count, with_rows.columns) at live

  key_of : (i : ℕ) → key_at t' rows' i ≡ take t.keys (row_at t.columns i rows')
  key_of i = rw (with_rows.keys, with_rows.columns)

  -- an unchanged row is still live
  still_live : (i : ℕ) → row_at t.columns i rows' ≡ row_at t.columns i rows → is_live (row_at t.columns i rows) ≡ true
      → is_live (row_at t.columns i rows') ≡ true
  still_live i e l = ap is_live e ∙ l

  was_live : (i : ℕ) → row_at t.columns i rows' ≡ row_at t.columns i rows → is_live (row_at t.columns i rows') ≡ true
      → is_live (row_at t.columns i rows) ≡ true
  was_live i e l = ap is_live (sym e) ∙ l

  still_key : (i : ℕ) → row_at t.columns i rows' ≡ row_at t.columns i rows → key_at t' rows' i ≡ key_at t rows i
  still_key i e = key_of i ∙ ap (take t.keys) e

-- a live row is appended
pub grown_rows : (t t' : IndexShape) (rows rows' : List ℕ) → WithRows t t' (t.rows + 1) → t.rows < t.room
    → ((i : ℕ) → i < t.rows → row_at t.columns i rows' ≡ row_at t.columns i rows) → is_live (row_at t.columns t.rows rows') ≡ true
    → Grown t t' rows rows'
grown_rows t t' rows rows' w place f new =
    record {
      room = w.room;
      place = place;
      keeps = λ i live. live_of t t' rows rows' (t.rows + 1) w i (omega (arith, live.0)) (still_live t t' rows rows' (t.rows + 1) w i (f i live.0) live.1);
      adds = live_of t t' rows rows' (t.rows + 1) w t.rows (omega arith) new;
      only = λ i live.
          let l = of_live t t' rows rows' (t.rows + 1) w i live in
          elim (dec_lt i t.rows) [
            | yes h ↦ inl (h, was_live t t' rows rows' (t.rows + 1) w i (f i h) l.1)
            | no h ↦ inr (omega (arith, l.0))
          ];
      key = λ i live. still_key t t' rows rows' (t.rows + 1) w i (f i live.0);
    }

-- a live row is appended, and the old row with the same key is dead
pub swapped_rows : (t t' : IndexShape) (rows rows' : List ℕ) (old : ℕ) → WithRows t t' (t.rows + 1) → t.rows < t.room
    → ((i : ℕ) → i < t.rows → (i ≡ old → ⊥) → row_at t.columns i rows' ≡ row_at t.columns i rows) → is_live (row_at t.columns old rows') ≡ false
    → is_live (row_at t.columns t.rows rows') ≡ true → take t.keys (row_at t.columns t.rows rows') ≡ key_at t rows old
    → Swapped t t' rows rows' old
swapped_rows t t' rows rows' old w place f dead new k =
    record {
      room = w.room;
      place = place;
      keeps = λ i live ne. live_of t t' rows rows' (t.rows + 1) w i (omega (arith, live.0)) (still_live t t' rows rows' (t.rows + 1) w i (f i live.0 ne) live.1);
      adds = live_of t t' rows rows' (t.rows + 1) w t.rows (omega arith) new;
      only = λ i live.
          let l = of_live t t' rows rows' (t.rows + 1) w i live in
          let ne : i ≡ old → ⊥ = λ q. false≢true (sym dead ∙ rw q at l.1) in
          elim (dec_lt i t.rows) [
            | yes h ↦ inl ((h, was_live t t' rows rows' (t.rows + 1) w i (f i h ne) l.1), ne)
            | no h ↦ inr (omega (arith, l.0))
          ];
      key = λ i live ne. still_key t t' rows rows' (t.rows + 1) w i (f i live.0 ne);
      new_key = key_of t t' rows rows' (t.rows + 1) w t.rows ∙ k;
    }

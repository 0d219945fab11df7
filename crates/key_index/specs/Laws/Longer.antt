-- A row store that is longer behind the rows has the same rows: the slots lead to them too, and the laws for a row store with room for
-- more rows hold. Assumes nothing.
use Rattle.std.specs.Prelude.{◌+◌, ◌*◌, ◌≤◌, ◌<◌, ◌≡◌, ◌++◌}
use Rattle.key_index.specs.Laws.Prelude.{ℕ, refl, sym, ap, ◌∙◌, List, arith, length, take, drop, length-append, length-drop, length-replicate, drop-append-le, take-append-le, is_live, row_in, IndexShape, KeysSound, Fits, RowsIn, RowsFit, zeros}
use Rattle.lists.specs.Lists.{row_at}
use Rattle.key_index.specs.Laws.Index.{keys_same}

row_at_longer : (w i : ℕ) (l more : List ℕ) → i * w + w ≤ length l → row_at w i (l ++ more) ≡ row_at w i l
unfolding row_at
row_at_longer w i l more h =
    ap (take w) (drop-append-le (i * w) l more (omega arith)) ∙ take-append-le w (drop (i * w) l) more (rw (length-drop (i * w) l) (omega arith))

module _ (t : IndexShape) (rows more : List ℕ) (f : RowsIn t rows) where
  pub same_row_lem : (i : ℕ) → i < t.rows → row_at t.columns i (rows ++ more) ≡ row_at t.columns i rows
  same_row_lem i h = row_at_longer t.columns i rows more (omega (arith, row_in i t.rows t.columns h, f.cells))

  pub keys_longer : (store : List ℕ) → KeysSound t rows store → KeysSound t (rows ++ more) store
  keys_longer store sound =
      keys_same t t rows (rows ++ more) store sound
      (record {
        room = refl;
        keeps = λ i live. (live.0, ap is_live (same_row_lem i live.0) ∙ live.1);
        only = λ i live. (live.0, ap is_live (sym (same_row_lem i live.0)) ∙ live.1);
        key = λ i live. ap (take t.keys) (same_row_lem i live.0);
      })

-- rows with room for more behind them
abbrev pub roomy : IndexShape → List ℕ → List ℕ
roomy t rows = rows ++ zeros (t.room * t.columns)

pub roomy_fits : (t : IndexShape) (rows store : List ℕ) → RowsFit t rows store → Fits t (roomy t rows) store
roomy_fits t rows store f =
    record {
      some_columns = f.some_columns;
      most_columns = f.within.most_columns;
      some_keys = f.some_keys;
      most_keys = f.within.most_keys;
      some = f.slots_fit.some;
      most = f.slots_fit.most;
      count = f.within.count;
      cells = omega (arith, length-append rows (zeros (t.room * t.columns)), length-replicate {A = ℕ} (t.room * t.columns) 0);
      long = f.slots_fit.long;
    }

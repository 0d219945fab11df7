-- The steps of `put_row`, one law for each return path, and the loop iterations of `rebuild`. Assumes nothing.
use Rattle.key_rebuild.proofs.Prelude.{ℕ, ◌+◌, ◌*◌, ◌≤◌, ◌<◌, ◌≡◌, refl, ap, sym, ◌∙◌, Bool, true, false, not, false≢true, List, arith, length, get_or, drop, row_at, is_live, live_first, IndexShape, key_at, slots, KeysSound, Fits, PutIs, EmptyIs, keys_same, empty_sound, emptied, put_sound, fits_fewer, grown_rows, first_rows, RowPut, Rebuilt}
use Rattle.cells.specs.Cells.{is_dead, compact_hash, key_hash}

-- slots that lead to the rows before a dead row lead to the rows up to it
pub dead_sound : (t : IndexShape) (rows store : List ℕ) (row : ℕ) → is_live (row_at t.columns row rows) ≡ false
    → KeysSound (first_rows t row) rows store → KeysSound (first_rows t (row + 1)) rows store
dead_sound t rows store row dead s =
    keys_same (first_rows t row) (first_rows t (row + 1)) rows rows store s
    (record {
      room = refl;
      keeps = λ i l. (omega (arith, l.0), l.1);
      only = λ i l. let ne : i ≡ row → ⊥ = λ q. false≢true (sym dead ∙ rw q at l.1) in (omega (arith, l.0), l.1);
      key = λ i l. refl;
    })

module _ (t : IndexShape) (rows store : List ℕ) (row : ℕ) (f : Fits t rows store) (h : row < t.rows) where
  by_first : is_live (row_at t.columns row rows) ≡ not (is_dead (get_or rows (row * t.columns) 0))
  by_first = live_first t.columns row rows f.some_columns

  -- a dead row
  pub row_dead : is_dead (get_or rows (row * t.columns) 0) ≡ true → RowPut t rows store row store
  row_dead e = record { sound = dead_sound t rows store row (by_first ∙ ap not e); rest = refl }

  -- a live one
  pub row_live : (hash : ℕ) (r : Bool) (store' : List ℕ) → is_dead (get_or rows (row * t.columns) 0) ≡ false → hash ≡ compact_hash (key_hash (key_at t rows row))
      → PutIs (slots t) store hash row r store' → RowPut t rows store row store'
  row_live hash r store' e hash-is put =
      let before : Fits (first_rows t row) rows store = fits_fewer t (first_rows t row) rows store f refl refl f.some (omega (arith, f.count)) (omega arith) in
      record {
        sound = λ s. put_sound (first_rows t row) (first_rows t (row + 1)) rows rows store store' hash r before s
            (grown_rows (first_rows t row) (first_rows t (row + 1)) rows rows (record { columns = refl; keys = refl; room = refl; count = refl }) (omega (arith, f.count)) (λ i k. refl) (by_first ∙ ap not e))
            hash-is put;
        rest = put.tail;
      }

-- what holds at the loop's head
pub record RebuildInvariant (t : IndexShape) (rows store₀ store : List ℕ) (row : ℕ) : Type 0 where
  pub most : row ≤ t.rows
  pub same : length store ≡ length store₀
  pub sound : KeysSound (first_rows t row) rows store
  pub rest : drop (slots t) store ≡ drop (slots t) store₀

module _ (t : IndexShape) (rows before store₀ : List ℕ) (freed : EmptyIs t.room before store₀) where
  pub turn_begin : slots t ≤ length before → RebuildInvariant t rows store₀ store₀ 0
  turn_begin long =
      record {
        most = omega arith;
        same = refl;
        sound = empty_sound (first_rows t 0) rows store₀ (λ i l. omega (arith, l.0)) (emptied t.room before store₀ long freed);
        rest = refl;
      }

  pub turn_end : (store : List ℕ) (row : ℕ) → RebuildInvariant t rows store₀ store row → t.rows ≤ row → Rebuilt t rows before store
  turn_end store row s h =
      let e : row ≡ t.rows = omega (arith, s.most) in
      record { sound = rw e at s.sound; rest = s.rest ∙ freed.tail }

pub turn_on : (t : IndexShape) (rows store₀ store store' : List ℕ) (row : ℕ) → RebuildInvariant t rows store₀ store row → row < t.rows → length store' ≡ length store
    → RowPut t rows store row store' → RebuildInvariant t rows store₀ store' (row + 1)
turn_on t rows store₀ store store' row s h same p =
    record { most = omega arith; same = same ∙ s.same; sound = p.sound s.sound; rest = p.rest ∙ s.rest }

-- The steps of `put_new_row`, one law for each return path, and the loop iterations of `build_unique`. Assumes nothing.
use Rattle.key_rebuild.proofs.Prelude.{ℕ, ◌+◌, ◌*◌, ◌≤◌, ◌<◌, ◌≡◌, refl, ap, sym, ◌∙◌, Bool, true, false, not, false≢true, List, mul-le-mul_right, dec_lt, arith, length, get_or, row_at, is_live, live_first, IndexShape, LiveAt, key_at, slots, KeysSound, RowsFit, KeysDiffer, NewPutIs, EmptyIs, empty_sound, emptied, put_sound, grown_rows, same_row_lem, keys_longer, roomy, roomy_fits, zeros, first_rows, NewRowPut, UniqueBuilt}
use Rattle.cells.specs.Cells.{is_dead, compact_hash, key_hash}
use Rattle.key_rebuild.proofs.RebuildSteps.{dead_sound}

module _ (t : IndexShape) (rows store : List ℕ) (f : RowsFit t rows store) where
  pub earlier_fit : (row : ℕ) → row ≤ t.rows → RowsFit (first_rows t row) rows store
  earlier_fit row h =
      let w = f.within in
      record {
        some_columns = f.some_columns;
        some_keys = f.some_keys;
        within = record {
          most_columns = w.most_columns;
          most_keys = w.most_keys;
          most = w.most;
          count = omega (arith, w.count);
          cells = omega (arith, w.cells, mul-le-mul_right t.columns h);
        };
        slots_fit = f.slots_fit;
      }

  pub other_store : (store' : List ℕ) → length store' ≡ length store → RowsFit t rows store'
  other_store store' e =
      let s = f.slots_fit in
      record {
        some_columns = f.some_columns;
        some_keys = f.some_keys;
        within = f.within;
        slots_fit = record { some = s.some; most = s.most; long = omega (arith, s.long) };
      }

module _ (t : IndexShape) (rows store : List ℕ) (row : ℕ) (f : RowsFit t rows store) (h : row < t.rows) where
  by_first : is_live (row_at t.columns row rows) ≡ not (is_dead (get_or rows (row * t.columns) 0))
  by_first = live_first t.columns row rows f.some_columns

  pub new_row_dead : is_dead (get_or rows (row * t.columns) 0) ≡ true → NewRowPut t rows store row true store
  new_row_dead e =
      let dead : is_live (row_at t.columns row rows) ≡ false = by_first ∙ ap not e in
      let earlier : (i : ℕ) → LiveAt (first_rows t (row + 1)) rows i → LiveAt (first_rows t row) rows i =
      λ i l. let ne : i ≡ row → ⊥ = λ q. false≢true (sym dead ∙ rw q at l.1) in (omega (arith, l.0), l.1) in
      record {
        sound = λ _. dead_sound t rows store row dead;
        differ = λ _ _ d i j l m. d i j (earlier i l) (earlier j m);
        repeat = λ q. absurd (false≢true (sym q));
      }

  module _ (e : is_dead (get_or rows (row * t.columns) 0) ≡ false) (hash : ℕ) (is : hash ≡ compact_hash (key_hash (key_at t rows row)))
      (r : Bool) (store' : List ℕ) (p : NewPutIs (first_rows t row) rows store (key_at t rows row) hash row r store') where
    live : is_live (row_at t.columns row rows) ≡ true
    live = by_first ∙ ap not e

    grown : r ≡ true → KeysSound (first_rows t row) rows store → KeysSound (first_rows t (row + 1)) rows store'
    grown q s =
        let u = first_rows t row in
        let fit = earlier_fit t rows store f row (omega arith) in
        let more = zeros (u.room * u.columns) in
        put_sound u (first_rows t (row + 1)) (roomy u rows) rows store store' hash true (roomy_fits u rows store fit) (keys_longer u rows more fit.within store s)
        (grown_rows u (first_rows t (row + 1)) (roomy u rows) rows (record { columns = refl; keys = refl; room = refl; count = refl }) (omega (arith, f.within.count)) (λ i k. sym (same_row_lem u rows more fit.within i k)) live)
        is (p.put q)

    apart : r ≡ true → KeysSound (first_rows t row) rows store → KeysDiffer (first_rows t row) rows → KeysDiffer (first_rows t (row + 1)) rows
    apart q s d i j l m k =
        elim (dec_lt i row) [
          | yes a ↦ elim (dec_lt j row) [
            | yes b ↦ d i j (a, l.1) (b, m.1) k
            | no b ↦ let z : j ≡ row = omega (arith, m.0) in absurd (p.new q is s i (a, l.1) (rw z at k))
          ]
          | no a ↦ elim (dec_lt j row) [
            | yes b ↦ let z : i ≡ row = omega (arith, l.0) in absurd (p.new q is s j (b, m.1) (sym (rw z at k)))
            | no b ↦ omega (arith, l.0, m.0)
          ]
        ]

    pub new_row_live : NewRowPut t rows store row r store'
    new_row_live =
        record {
          sound = grown;
          differ = apart;
          repeat = λ q s d.
              let k = p.known q is s in
              let z : k.0 ≡ row = d k.0 row (omega (arith, k.1.0), k.1.1) (h, live) k.2 in
              omega (arith, k.1.0);
        }

-- what holds at the loop's head
pub record UniqueInvariant (t : IndexShape) (rows store₀ store : List ℕ) (row : ℕ) : Type 0 where
  pub most : row ≤ t.rows
  pub same : length store ≡ length store₀
  pub sound : KeysSound (first_rows t row) rows store
  pub differ : KeysDiffer (first_rows t row) rows

pub unique_begin : (t : IndexShape) (rows before store : List ℕ) → slots t ≤ length before → EmptyIs t.room before store → UniqueInvariant t rows store store 0
unique_begin t rows before store long freed =
    record {
      most = omega arith;
      same = refl;
      sound = empty_sound (first_rows t 0) rows store (λ i l. omega (arith, l.0)) (emptied t.room before store long freed);
      differ = λ i j l m k. absurd (omega (arith, l.0));
    }

module _ (t : IndexShape) (rows store₀ store : List ℕ) (row : ℕ) (s : UniqueInvariant t rows store₀ store row) where
  pub unique_on : (store' : List ℕ) (r : Bool) → row < t.rows → length store' ≡ length store → NewRowPut t rows store row r store' → r ≡ true
      → UniqueInvariant t rows store₀ store' (row + 1)
  unique_on store' r h same p q =
      record { most = omega arith; same = same ∙ s.same; sound = p.sound q s.sound; differ = p.differ q s.sound s.differ }

  pub unique_repeat : (store' : List ℕ) (r : Bool) → NewRowPut t rows store row r store' → r ≡ false → UniqueBuilt t rows false store'
  unique_repeat store' r p q =
      record { sound = λ e. absurd (false≢true e); differ = λ e. absurd (false≢true e); repeat = λ _. p.repeat q s.sound }

  pub unique_end : t.rows ≤ row → UniqueBuilt t rows true store
  unique_end h =
      let e : row ≡ t.rows = omega (arith, s.most) in
      record { sound = λ _. rw e at s.sound; differ = λ _. rw e at s.differ; repeat = λ q. absurd (false≢true (sym q)) }

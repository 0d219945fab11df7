-- The rows that mention a value: how the passes that set their bits make one, and that the records of the rows in the bitmap
-- are those of the rows found. Assumes nothing.
use Rattle.refresh.proofs.Prelude.{ℕ, suc, ◌+◌, ◌*◌, ◌/◌, ◌%◌, ◌≤◌, ◌<◌, ◌≡◌, refl, sym, ap, ◌∙◌, inl, inr, Bool, true, false, not, ◌&&◌, ◌||◌, false≢true, List, [], ◌∷◌, map, add-zero, dec_lt, arith, leb, ltb, length, get_or, leb-true, ltb-true, le-leb, lt-ltb, and_both, or_right, split, and_left, and_right, is_live, below_bitmap_word, Bitmap, Summarised, Marked, marked_then, marked_weaker, marked_few, count_none, no_row, Header, opening_of, outside, rows_in, row_of_cells, length_rows_in, get_d_rows_in, outside_inside, rows_seen, IndexSound, Scannable, UpToDate, usable_index, RowsFound}
use Rattle.lists.specs.Lists.{filter, same, row_at, iota}
use Rattle.row_buffer.specs.Ranks.{set_below, bitmap_word, count_to}
use Rattle.plain_table.specs.Plain.{Row, Numbered, live_from, live_rows}
use Rattle.plain_table.specs.Refreshing.{Refresh, mentions, mentioning, refreshed}
use Rattle.refresh_spec.specs.Refreshes.{records_found}
use Rattle.refresh_spec.specs.inner.Finding.{mentions_at, mentions_below, mentions_from, Lendable, usable, ListedMarked, CaughtUp}
use Rattle.refresh.specs.inner.Staging.{numbered, marked_rows}

-- ---- one pass or two

pub there_below : (h : Header) (rows columns values : List ℕ) (i : ℕ) → mentions_at h rows columns values i ≡ true → i < h.rows
unfolding mentions_at
there_below h rows columns values i e = ltb-true _ _ (and_left (ltb i h.rows) _ (and_left _ _ e))

module _ (h : Header) (rows index columns values : List ℕ) where
  abbrev at : ℕ → Bool
  at i = mentions_at h rows columns values i

  from_of : (seen i : ℕ) → seen ≤ i → at i ≡ true → mentions_from h rows columns values seen i ≡ true
  unfolding mentions_from
  from_of seen i k e = and_both _ _ (le-leb seen i k) e

  from_at : (seen i : ℕ) → mentions_from h rows columns values seen i ≡ true → at i ≡ true
  unfolding mentions_from
  from_at seen i e = and_right (leb seen i) _ e

  below_at : (seen i : ℕ) → mentions_below h rows columns values seen i ≡ true → at i ≡ true
  unfolding mentions_below
  below_at seen i e = and_right (ltb i seen) _ e

  pub found_restarted : {words words' : List ℕ} {count : ℕ} → Marked (mentions_from h rows columns values 0) (mentions_from h rows columns values 0) words words' count
      → RowsFound h rows index columns values words words' count
  found_restarted m needed only = marked_weaker (from_at 0) (λ i e. from_of 0 i (omega arith) (only i e).1) m

  pub found_both : {words words' words'' : List ℕ} {listed more : ℕ} → Lendable h rows columns index → usable h columns index ≡ true → ListedMarked h rows index columns values words words' listed
      → Marked (mentions_from h rows columns values (rows_seen index)) (mentions_from h rows columns values (rows_seen index)) words' words'' more
      → RowsFound h rows index columns values words words'' (listed + more)
  unfolding mentions_below
  found_both lent u l m needed only =
      let seen = rows_seen index in
      let a = l (λ i. ltb i seen && needed i) (λ i e.
      let o = only i (and_right (ltb i seen) _ e) in
      (usable_index lent u o.0, and_both _ _ (and_left (ltb i seen) _ e) o.1)) in
      let b : Marked at (λ i. leb seen i && needed i) _ _ _ = marked_weaker (from_at seen) (λ i e. from_of seen i (leb-true _ _ (and_left (leb seen i) _ e)) (only i (and_right (leb seen i) _ e)).1) m in
      marked_weaker (λ i e. e) (λ i e. elim (dec_lt i seen) [
        | yes k ↦ rw (lt-ltb i seen k, e)
        | no k ↦ or_right (ltb i seen && needed i) _ (and_both _ _ (le-leb seen i (omega arith)) e)
      ]) (marked_then (marked_weaker (below_at seen) (λ i e. e) a) b)

  -- one pass, by the index store that has caught up
  pub found_caught : {index' words words' : List ℕ} {count : ℕ} → Lendable h rows columns index → CaughtUp h rows columns index index' × UpToDate h columns index'
      → ListedMarked h rows index' columns values words words' count → RowsFound h rows index columns values words words' count
  unfolding mentions_below
  found_caught {index'} lent up l needed only =
      marked_weaker (below_at (rows_seen index')) (λ i e. e)
      (l needed (λ i e.
      let o = only i e in
      let below = there_below h rows columns values i o.1 in
      ((up.0.current (λ u. usable_index lent u o.0)).index_of, and_both _ _ (lt-ltb i (rows_seen index') (rw up.1.seen_all below)) o.1)))

  pub lendable_caught : {index' : List ℕ} → Lendable h rows columns index → length index' ≡ length index → Lendable h rows columns index'
  lendable_caught l same =
      record {
        inside = l.inside;
        rows_long = l.rows_long;
        columns_few = l.columns_few;
        columns_there = l.columns_there;
        index_long = omega (arith, l.index_long, same);
      }

  pub listed_long : {words words' : List ℕ} {listed : ℕ} → ListedMarked h rows index columns values words words' listed → length words ≡ 1040 → length words' ≡ 1040
  listed_long l = (l (λ i. false) (λ i e. absurd (false≢true e))).long

  -- neither sets more bits than there can be rows
  pub both_few : {words words' words'' : List ℕ} {listed more : ℕ} {other : ℕ → Bool} → Bitmap words (λ i. false) → ListedMarked h rows index columns values words words' listed
      → Marked other other words' words'' more → (listed ≤ 65536) × (more ≤ 65536)
  both_few b l m =
      let a = l (λ i. false) (λ i e. absurd (false≢true e)) in
      (marked_few a b, marked_few m (a.adds (λ i. false) b).2)

  pub scannable : {from : ℕ} {words : List ℕ} → Lendable h rows columns index → from ≤ h.rows → length words ≡ 1040 → Scannable h rows from columns words
  scannable l inside long =
      record {
        inside = l.inside;
        rows_long = l.rows_long;
        from_inside = inside;
        columns_few = l.columns_few;
        columns_there = l.columns_there;
        words_long = long;
      }

-- ---- the bitmap after that

marks_alike : (f g : ℕ → Bool) (n : ℕ) → bitmap_word f n ≡ bitmap_word g n → (k : ℕ) → k < n → f k ≡ g k
unfolding count_to
marks_alike f g n e k h =
    let a : count_to f k ≡ count_to g k = sym (below_bitmap_word f k n (omega arith)) ∙ ap (λ (w : ℕ). set_below w k) e ∙ below_bitmap_word g k n (omega arith) in
    let b : count_to f (suc k) ≡ count_to g (suc k) = sym (below_bitmap_word f (suc k) n h) ∙ ap (λ (w : ℕ). set_below w (suc k)) e ∙ below_bitmap_word g (suc k) n h in
    elim (split (f k)) [
      | inl p ↦ elim (split (g k)) [ inl q ↦ p ∙ sym q | inr q ↦ absurd (let z : count_to f k + 1 ≡ count_to g k + 0 = rw (p, q) at b in omega arith) ]
      | inr p ↦ elim (split (g k)) [ inl q ↦ absurd (let z : count_to f k + 0 ≡ count_to g k + 1 = rw (p, q) at b in omega arith) | inr q ↦ p ∙ sym q ]
    ]

-- two tests of one bitmap agree
bitmap_same : {words : List ℕ} {f g : ℕ → Bool} → Bitmap words f → Bitmap words g → (i : ℕ) → i < 65536 → f i ≡ g i
bitmap_same {words} {f} {g} a b i h =
    let w = i / 64 in
    let e : 64 * w + i % 64 ≡ i = omega arith in
    let few : w < 1024 = omega arith in
    rw e at (marks_alike (λ bit. f (64 * w + bit)) (λ bit. g (64 * w + bit)) 64 (sym (a.marked w few) ∙ b.marked w few) (i % 64) (omega arith))

-- so many rows are marked, live ones that mention a value; over a sound index store all of those
pub record FoundRows (h : Header) (rows index columns values words : List ℕ) (count : ℕ) : Type 0 where
  pub test : ℕ → Bool
  pub bitmap : Bitmap words test
  pub summarised : Summarised words
  pub counted : count_to test 65536 ≡ count
  pub mention : (i : ℕ) → test i ≡ true → mentions_at h rows columns values i ≡ true
  pub all : IndexSound h rows columns index → (i : ℕ) → mentions_at h rows columns values i ≡ true → test i ≡ true

pub found_rows : {h : Header} {rows index columns values words words' : List ℕ} {count : ℕ} → outside h ≡ false → Bitmap words (λ i. false) → Summarised words
    → RowsFound h rows index columns values words words' count → FoundRows h rows index columns values words' count
found_rows {h} {rows} {index} {columns} {values} inside b s f =
    let n = outside_inside h inside in
    let m = f (λ i. false) (λ i e. absurd (false≢true e)) in
    let a = m.adds (λ i. false) b in
    record {
      test = a.0;
      bitmap = a.2;
      summarised = m.summary s;
      counted = omega (arith, a.3, count_none 65536);
      mention = λ i e. a.1.allowed_only i refl e;
      all = λ sound i m.
          let c = (f (mentions_at h rows columns values) (λ j e. (sound, e))).adds (λ i. false) b in
          bitmap_same a.2 c.2 i (omega (arith, there_below h rows columns values i m, n.rows_fit, n.bounds.capacity_few)) ∙ c.1.all_needed i m;
    }

-- ---- the records of these rows

module _ (h : Header) (rows : List ℕ) (r : Refresh) (test : ℕ → Bool) (mention : (i : ℕ) → test i ≡ true → mentions_at h rows r.columns r.values i ≡ true) where
  -- a row that is marked, or need not be
  unfoldable pub found : ℕ → Bool
  found i = test i || not (mentions_at h rows r.columns r.values i)

  abbrev mentioned : Numbered → Bool
  mentioned row = mentions r.columns r.values row.cells

  at_parts : (i : ℕ) → mentions_at h rows r.columns r.values i ≡ true
      → (is_live (row_at h.columns i rows) ≡ true) × (mentions r.columns r.values (row_at h.columns i rows) ≡ true)
  unfolding mentions_at
  at_parts i e =
      (and_right (ltb i h.rows) _ (and_left _ _ e), and_right (ltb i h.rows && is_live (row_at h.columns i rows)) _ e)

  marked_found : (i : ℕ) → test i ≡ true → found i ≡ true
  unfolding found
  marked_found i t = rw t

  left_out : (i : ℕ) → i < h.rows → test i ≡ false → is_live (row_at h.columns i rows) ≡ true
      → mentions r.columns r.values (row_at h.columns i rows) ≡ true → found i ≡ false
  unfolding found mentions_at
  left_out i k t a m = rw (t, lt-ltb i h.rows k, a, m)

  found_from : (s : ℕ) (l : List Row) → ((i : ℕ) → i < length l → get_or l i no_row ≡ row_of_cells (row_at h.columns (s + i) rows)) → s + length l ≤ h.rows
      → filter (λ row. found row.number) (filter mentioned (live_from s l)) ≡ map (numbered h rows) (filter test (iota s (length l)))
  unfolding filter live_from iota
  found_from s [] f k = refl
  found_from s (row ∷ l) f k = go (f 0 (omega arith)) (found_from (suc s) l (λ i b. f (suc i) (omega arith) ∙ ap (λ (j : ℕ). row_of_cells (row_at h.columns j rows)) (omega arith)) (omega arith))
    where
      go : row ≡ row_of_cells (row_at h.columns (s + 0) rows)
          → filter (λ row. found row.number) (filter mentioned (live_from (suc s) l)) ≡ map (numbered h rows) (filter test (iota (suc s) (length l)))
          → filter (λ row. found row.number) (filter mentioned (live_from s (row ∷ l))) ≡ map (numbered h rows) (filter test (iota s (length (row ∷ l))))
      go e rest =
          let c = row_at h.columns s rows in
          let q : row ≡ row_of_cells c = e ∙ ap (λ (j : ℕ). row_of_cells (row_at h.columns j rows)) (add-zero s) in
          elim (split (test s)) [
            | inl t ↦ let p = at_parts s (mention s t) in rw (q, p.0, p.1, marked_found s t, t, rest)
            | inr t ↦ elim (split (is_live c)) [
              | inl a ↦ elim (split (mentions r.columns r.values c)) [
                | inl m ↦ rw (q, a, m, left_out s (omega arith) t a m, t) rest
                | inr m ↦ rw (q, a, m, t) rest
              ]
              | inr a ↦ rw (q, a, t) rest
            ]
          ]

  -- those of the marked rows
  pub records_found_lem : records_found h rows r found ≡ refreshed (opening_of h) r.stamp (marked_rows h rows test h.rows)
  unfolding records_found mentioning live_rows marked_rows
  records_found_lem =
      let n = length_rows_in h rows in
      ap (refreshed (opening_of h) r.stamp)
      (found_from 0 (rows_in h rows) (λ i b. get_d_rows_in h rows i (omega arith) ∙ ap (λ (j : ℕ). row_of_cells (row_at h.columns j rows)) (omega arith)) (omega arith)
      ∙ ap (λ (k : ℕ). map (numbered h rows) (filter test (iota 0 k))) n)
